use Rattle.std.proofs.Common.{◌≡◌, take}
use Rattle.gv_facts.proofs.value_lists.ValueLists.copy.Given as goal

abbrev pub invariant-loop-item : goal.invariant-loop-item
invariant-loop-item l = l.lists ≡ take l.item-index l.self
