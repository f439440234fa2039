use Rattle.std.proofs.Common.{◌≡◌, ◌++◌, drop}
use Rattle.gv_reading.specs.Causes.{view}
use Rattle.gv_usedefaults.specs.LineFiles.{kinds_files, kinds_steps}
use Rattle.gv_reading.specs.Passing.{IsAmid}
use Rattle.gv_usedefaults.proofs.line_walk.read_kinds.Given as goal

-- the files so far and those of the other kinds are all
abbrev pub invariant-loop-kind : goal.invariant-loop-kind
invariant-loop-kind g l =
    let see = view g.T.Tree.files g.T.Tree.faults g.T.Tree.entered g.T.Tree.lent in
    IsAmid (see l.fn.tree) (see l.tree) l.fn.reader l.reader (λ look. kinds_steps look l.dir (drop l.kind-index l.kinds)) (λ look. kinds_steps look l.dir l.kinds)
    (λ look. l.files.items ++ kinds_files look l.dir (drop l.kind-index l.kinds) ≡ l.fn.files.items ++ kinds_files look l.dir l.kinds)
