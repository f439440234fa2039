use Rattle.std.proofs.Common.{◌≡◌, ◌++◌, drop}
use Rattle.gv_atom.specs.declared.atom.Block.TheVariants.{No}
use Rattle.gv_expr.specs.Mentions.{item_mentions}
use Rattle.gv_expr.proofs.mentions.Mentions.add_items.Given as goal

abbrev pub invariant-loop-item : goal.invariant-loop-item
invariant-loop-item l = l.self ++ item_mentions No (drop l.item-index l.items) ≡ l.initial.self ++ item_mentions No l.items
