use Rattle.std.proofs.Common.{◌∷◌, []}
use Rattle.gv_load.specs.Going.{HasGone}
use Rattle.gv_load.specs.Reaching.{reach_below}
use Rattle.gv_load.proofs.reaching.read_from.Given as goal
use Rattle.gv_reading.specs.Causes.{view}

-- what was reached so far and what is ahead is all
abbrev pub invariant-loop : goal.invariant-loop
invariant-loop g l =
    let see = view g.T.Tree.files g.T.Tree.faults g.T.Tree.entered g.T.Tree.lent in
    HasGone (see l.fn.tree) (see l.tree) l.fn.reached l.fn.reader l.reader (l.fn.dir ∷ []) (λ dirs. reach_below dirs 0 l.fn.reached.order l.fn.dir) l.ahead.items l.now
