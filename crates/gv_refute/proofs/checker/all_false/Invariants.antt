use Rattle.std.proofs.Common.{◌≡◌, drop}
use Rattle.gv_logic.specs.Partial.{all_false}
use Rattle.gv_refute.proofs.checker.all_false.Given as goal

abbrev pub invariant-loop-lit : goal.invariant-loop-lit
invariant-loop-lit l = all_false l.marks (drop l.lit-index l.lits) ≡ all_false l.marks l.lits
