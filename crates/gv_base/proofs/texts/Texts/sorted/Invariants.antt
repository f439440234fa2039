use Rattle.std.proofs.Common.{◌≡◌, take}
use Rattle.gv_base.specs.Order.{in_order}
use Rattle.gv_base.proofs.texts.Texts.sorted.Given as goal

abbrev pub invariant-loop-item : goal.invariant-loop-item
invariant-loop-item l = l.set.keys ≡ in_order (take l.item-index l.self)
