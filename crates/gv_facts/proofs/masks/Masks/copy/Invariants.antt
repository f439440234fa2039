use Rattle.std.proofs.Common.{◌≡◌, take}
use Rattle.gv_facts.proofs.masks.Masks.copy.Given as goal

abbrev pub invariant-loop-item : goal.invariant-loop-item
invariant-loop-item l = l.masks ≡ take l.item-index l.self
