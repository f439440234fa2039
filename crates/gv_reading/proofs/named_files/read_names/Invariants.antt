use Rattle.std.proofs.Common.{◌≡◌, ◌++◌, drop}
use Rattle.gv_reading.specs.Causes.{view}
use Rattle.gv_reading.specs.NamedFiles.{folder_files, name_steps}
use Rattle.gv_reading.specs.Passing.{IsAmid}
use Rattle.gv_reading.proofs.named_files.read_names.Given as goal

-- the files so far and those of the other names are all
abbrev pub invariant-loop-name : goal.invariant-loop-name
invariant-loop-name g l =
    let see = view g.T.Tree.files g.T.Tree.faults g.T.Tree.entered g.T.Tree.lent in
    IsAmid (see l.fn.tree) (see l.tree) l.fn.reader l.reader (λ look. name_steps l.dir (drop l.name-index l.names)) (λ look. name_steps l.dir l.names)
    (λ look. l.files ++ folder_files look l.dir (drop l.name-index l.names) ≡ folder_files look l.dir l.names)
