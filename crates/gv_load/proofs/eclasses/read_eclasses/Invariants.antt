use Rattle.std.proofs.Common.{drop, take}
use Rattle.gv_reading.specs.Causes.{view}
use Rattle.gv_load.specs.DigestWords.{KeepsDigests}
use Rattle.gv_load.specs.Order.{eclass_steps}
use Rattle.gv_reading.specs.Passing.{IsAmid}
use Rattle.gv_load.proofs.eclasses.read_eclasses.Given as goal

-- the digests of the eclasses so far are kept
abbrev pub invariant-loop-name : goal.invariant-loop-name
invariant-loop-name g l =
    let see = view g.T.Tree.files g.T.Tree.faults g.T.Tree.entered g.T.Tree.lent in
    IsAmid (see l.fn.tree) (see l.tree) l.fn.reader l.reader (λ look. eclass_steps (drop l.name-index l.names)) (λ look. eclass_steps l.names)
    (λ look. KeepsDigests look (take l.name-index l.names) l.digests)
