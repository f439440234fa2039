use Rattle.std.proofs.Common.{◌≡◌, drop, length}
use Rattle.gv_logic.specs.Logs.{started}
use Rattle.gv_refute.proofs.checker.start.Given as goal

abbrev pub invariant-loop-lit : goal.invariant-loop-lit
invariant-loop-lit l = record {
  started : started l.marks (drop l.lit-index l.lits) ≡ started l.initial.marks l.lits;
  count : length l.marks ≡ length l.initial.marks;
}
