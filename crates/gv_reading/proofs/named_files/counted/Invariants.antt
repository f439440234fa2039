use Rattle.std.proofs.Common.{◌≡◌, ◌++◌, drop, filter}
use Rattle.gv_reading.specs.NamedFiles.{counts}
use Rattle.gv_reading.proofs.named_files.counted.Given as goal

abbrev pub invariant-loop-name : goal.invariant-loop-name
invariant-loop-name l = l.left ++ filter counts (drop l.name-index l.names) ≡ filter counts l.names
