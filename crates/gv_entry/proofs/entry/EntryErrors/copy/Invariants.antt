use Rattle.std.proofs.Common.{◌≡◌, take}
use Rattle.gv_entry.proofs.entry.EntryErrors.copy.Given as goal

abbrev pub invariant-loop-item : goal.invariant-loop-item
invariant-loop-item l = l.errors ≡ take l.item-index l.self
