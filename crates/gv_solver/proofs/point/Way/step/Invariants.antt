use Rattle.std.proofs.Common.{◌≡◌, ◌≤◌, ◌++◌, [], ◌∷◌, take, length}
use Rattle.gv_solver.specs.Point.{hints_back}
use Rattle.gv_solver.proofs.point.Way.step.Given as goal

abbrev pub invariant-loop-at : goal.invariant-loop-at
invariant-loop-at l =
    record {
      hints : l.hints ++ hints_back (take l.at l.self.reasons.items) (l.conflict ∷ []) ≡ hints_back l.self.reasons.items (l.conflict ∷ []);
      at : l.at ≤ length l.self.reasons.items;
    }

abbrev pub decreases-loop-at : goal.decreases-loop-at
decreases-loop-at l = l.at
