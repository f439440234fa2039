use Rattle.std.proofs.Common.{◌≡◌, drop}
use Rattle.gv_logic.specs.Circuits.{at, all_lits_true}
use Rattle.gv_logic.proofs.evaluate.all_true.Given as goal

abbrev pub invariant-loop-lit : goal.invariant-loop-lit
invariant-loop-lit l = all_lits_true (at l.places) (drop l.lit-index l.lits) ≡ all_lits_true (at l.places) l.lits
