use Rattle.std.proofs.Common.{◌≡◌, ◌≤◌, drop, length}
use Rattle.gv_solver.specs.Resting.{needed_by, reasons}
use Rattle.gv_solver.proofs.resting.mark_needed.Given as goal

abbrev pub invariant-loop-left : goal.invariant-loop-left
invariant-loop-left l =
    record {
      marks : l.marks.items ≡ needed_by l.clauses.clauses (reasons l.trail) (drop l.left l.lits) l.fn.marks.items;
      at : l.left ≤ length l.lits;
    }

abbrev pub decreases-loop-left : goal.decreases-loop-left
decreases-loop-left l = l.left
