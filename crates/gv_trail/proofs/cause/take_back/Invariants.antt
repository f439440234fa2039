use Rattle.gv_trail.proofs.Back.{IsLeft}
use Rattle.gv_trail.proofs.cause.take_back.Given as goal

abbrev pub invariant-loop-left : goal.invariant-loop-left
invariant-loop-left l = IsLeft l.causes l.lits l.level l.on.items l.left

abbrev pub decreases-loop-left : goal.decreases-loop-left
decreases-loop-left l = l.left
