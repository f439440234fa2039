use Rattle.std.proofs.Common.{◌≤◌, length}
use Rattle.gv_solver.specs.LevelCounts.{IsCounted}
use Rattle.gv_solver.specs.Point.{IsWay}
use Rattle.gv_solver.proofs.point.first_point.Given as goal

abbrev pub invariant-loop-left : goal.invariant-loop-left
invariant-loop-left l =
    record {
      way : IsWay l.clauses.clauses l.trail l.conflict l.left l.way;
      counted : IsCounted l.trail l.left l.way;
      at : l.left ≤ length l.trail.entries;
    }

abbrev pub decreases-loop-left : goal.decreases-loop-left
decreases-loop-left l = l.left
