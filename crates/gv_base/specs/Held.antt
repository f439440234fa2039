-- For the model of texts: the bytes that one holds.
use Rattle.std.specs.Prelude.{ℕ, List, take}
use Rattle.gv_base.specs.declared.held.Held.{Held}
use Rattle.gv_base.specs.declared.held.Held.TheVariants.{Few, Many}
use Rattle.gv_base.specs.declared.held.Room.{Room}

abbrev pub bytes_in : Room → List ℕ
bytes_in room = take room.len room.bytes

abbrev pub bytes_of : Held → List ℕ
bytes_of (Few room) = bytes_in room
bytes_of (Many bytes) = bytes.value.items
