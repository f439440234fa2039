use Rattle.std.proofs.Common.{◌≡◌, drop}
use Rattle.gv_solver.specs.Resting.{marked_against}
use Rattle.gv_solver.proofs.resting.mark_against.Given as goal

abbrev pub invariant-loop-lit : goal.invariant-loop-lit
invariant-loop-lit l = marked_against l.marks.items (drop l.lit-index l.lits) ≡ marked_against l.initial.marks.items l.lits
