use Rattle.std.proofs.Common.{◌≡◌, ◌++◌, drop}
use Rattle.gv_trail.specs.Entries.{lits_of}
use Rattle.gv_solver.specs.Resting.{rests_by, reasons}
use Rattle.gv_solver.proofs.resting.marked_decisions.Given as goal

abbrev pub invariant-loop-lit : goal.invariant-loop-lit
invariant-loop-lit l = l.set.items ++ rests_by l.marks (reasons l.trail) (drop l.lit-index l.lit-items) ≡ rests_by l.marks (reasons l.trail) (lits_of l.trail.entries)
