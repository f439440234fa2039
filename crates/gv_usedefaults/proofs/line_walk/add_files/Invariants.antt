use Rattle.std.proofs.Common.{◌≡◌, ◌++◌, map}
use Rattle.std.specs.Vec.Iter.{into_iter_items}
use Rattle.gv_usedefaults.specs.LineFiles.{line_file}
use Rattle.gv_usedefaults.proofs.line_walk.add_files.Given as goal

abbrev pub invariant-loop-file : goal.invariant-loop-file
invariant-loop-file l = l.files.items ++ map (line_file l.dir l.kind) (into_iter_items l.file-iterator) ≡ l.fn.files.items ++ map (line_file l.dir l.kind) l.fn.named.items
