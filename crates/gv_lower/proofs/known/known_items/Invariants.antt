use Rattle.std.proofs.Common.{◌≡◌, ◌++◌, drop}
use Rattle.gv_lower.specs.Sites.{known_items}
use Rattle.gv_lower.proofs.known.known_items.Given as goal

abbrev pub invariant-loop-item : goal.invariant-loop-item
invariant-loop-item l = l.these.items ++ known_items l.ruled (drop l.item-index l.items) l.pkg ≡ known_items l.ruled l.items l.pkg
