use Rattle.std.proofs.Common.{◌≡◌, drop}
use Rattle.gv_logic.specs.Literals.{clause_true}
use Rattle.gv_logic.specs.Circuits.{at}
use Rattle.gv_logic.proofs.evaluate.some_true.Given as goal

abbrev pub invariant-loop-lit : goal.invariant-loop-lit
invariant-loop-lit l = clause_true (at l.places) (drop l.lit-index l.lits) ≡ clause_true (at l.places) l.lits
