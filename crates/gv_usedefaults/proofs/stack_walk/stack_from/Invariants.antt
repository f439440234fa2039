use Rattle.gv_usedefaults.specs.Going.{IsGoing, ahead_of}
use Rattle.gv_usedefaults.specs.Stacks.{parents_in, stack_from}
use Rattle.gv_usedefaults.proofs.stack_walk.stack_from.Given as goal

abbrev pub invariant-loop-turns : goal.invariant-loop-turns
invariant-loop-turns l = IsGoing (parents_in l.files) (stack_from l.files l.fn.dir) l.going (ahead_of l.going)

abbrev pub decreases-loop-turns : goal.decreases-loop-turns
decreases-loop-turns l = l.turns
