-- For the model of items: those that are kept.
use Rattle.std.specs.Prelude.{List, [], Option, None, Some}
use Rattle.std.specs.declared.boxed.Box.{Box}
use Rattle.std.specs.declared.vec.Vec.{Vec}
use Rattle.std.specs.declared.alloc.Global.{Global}
use Rattle.gv_atom.specs.declared.items.UseItem.{UseItem}

abbrev pub items_in : Option (Box (Vec UseItem Global) Global) → List UseItem
items_in None = []
items_in (Some items) = items.value.items
