use Rattle.std.proofs.Common.{◌≡◌, false, None, drop}
use Rattle.std.specs.Prelude.{IfSome}
use Rattle.gv_logic.specs.Partial.{is_true, unit_after}
use Rattle.gv_refute.proofs.checker.unit_of.Given as goal

abbrev pub invariant-loop-lit : goal.invariant-loop-lit
invariant-loop-lit l = record {
  unit : unit_after l.marks l.found (drop l.lit-index l.lits) ≡ unit_after l.marks None l.lits;
  free : IfSome l.found (λ lit. is_true l.marks lit ≡ false);
}
