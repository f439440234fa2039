use Rattle.std.proofs.Common.{◌≡◌, take}
use Rattle.gv_entry.proofs.entry.Eclasses.copy.Given as goal

abbrev pub invariant-loop-item : goal.invariant-loop-item
invariant-loop-item l = l.eclasses ≡ take l.item-index l.self
