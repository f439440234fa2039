-- For private contracts: the places that are kept at each directory.
use Rattle.std.specs.Prelude.{ℕ, List, []}
use Rattle.std.specs.declared.alloc.Global.{Global}
use Rattle.std.specs.declared.vec.Vec.{Vec}
use Rattle.std.specs.FinMap.{get}
use Rattle.std.specs.Option.{option_map_or}
use Rattle.gv_base.specs.ByteMap.{ByteMap, map_of}
use Rattle.gv_usedefaults.specs.declared.dir_places.DirPlaces.{DirPlaces}

abbrev pub PlaceMap : Type 0
PlaceMap = ByteMap (Vec ℕ Global)

abbrev pub places_in : PlaceMap → List ℕ → List ℕ
places_in map dir = option_map_or (λ (places : Vec ℕ Global). places.items) (get map dir) []

abbrev pub places_at : DirPlaces → List ℕ → List ℕ
places_at index dir = places_in (map_of index.map.entries) dir
