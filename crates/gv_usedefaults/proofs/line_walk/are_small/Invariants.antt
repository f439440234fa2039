use Rattle.std.proofs.Common.{◌≡◌, drop}
use Rattle.gv_usedefaults.specs.LineFiles.{are_small}
use Rattle.gv_usedefaults.proofs.line_walk.are_small.Given as goal

abbrev pub invariant-loop-file : goal.invariant-loop-file
invariant-loop-file l = are_small (drop l.file-index l.files) ≡ are_small l.files
