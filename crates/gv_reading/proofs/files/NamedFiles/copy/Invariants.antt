use Rattle.std.proofs.Common.{◌≡◌, ◌++◌, drop}
use Rattle.gv_reading.proofs.files.NamedFiles.copy.Given as goal

abbrev pub invariant-loop-item : goal.invariant-loop-item
invariant-loop-item l = l.files ++ drop l.item-index l.self ≡ l.self
