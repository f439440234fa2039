use Rattle.std.proofs.Common.{◌≡◌, ◌++◌, drop}
use Rattle.gv_usedefaults.specs.LineFiles.{parents_by}
use Rattle.gv_usedefaults.proofs.line_walk.paths_by.Given as goal

abbrev pub invariant-loop-file : goal.invariant-loop-file
invariant-loop-file l = l.paths ++ parents_by l.dir (drop l.file-index l.files) ≡ parents_by l.dir l.files
