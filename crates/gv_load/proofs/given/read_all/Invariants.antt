use Rattle.std.proofs.Common.{◌≡◌, ◌++◌, drop}
use Rattle.gv_reading.specs.Causes.{view}
use Rattle.gv_load.specs.Given.{given_reads, pf_steps}
use Rattle.gv_reading.specs.Passing.{IsAmid}
use Rattle.gv_load.proofs.given.read_all.Given as goal

-- what was read so far and that of the other names is all
abbrev pub invariant-loop-one : goal.invariant-loop-one
invariant-loop-one g l =
    let see = view g.T.Tree.files g.T.Tree.faults g.T.Tree.entered g.T.Tree.lent in
    IsAmid (see l.fn.tree) (see l.tree) l.fn.reader l.reader (λ look. pf_steps (drop l.one-index l.given)) (λ look. pf_steps l.given)
    (λ look. l.reads ++ given_reads look (drop l.one-index l.given) ≡ given_reads look l.given)
