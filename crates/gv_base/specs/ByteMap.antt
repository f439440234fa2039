-- Finite maps whose keys are bytes, at any type of values, and the ordered tree that keeps one.
use Rattle.std.specs.Prelude.{ℕ, List, [], ◌∷◌, map, Bool}
use Rattle.std.specs.declared.vec.Vec.{Vec}
use Rattle.std.specs.declared.alloc.Global.{Global}
use Rattle.std.specs.declared.cmp.Ordering.{Ordering}
use Rattle.std.specs.BTreeMap.{is_at}
use Rattle.std.specs.FinMap.{FinMap, from_entries, insert, code}
use Rattle.std.specs.Coded.{Coded, coded_list, coded_ℕ}
use Rattle.gv_base.specs.Order.{byte_cmp}

abbrev pub ByteMap : Type 0 → Type 0
ByteMap X = FinMap byte_cmp X

abbrev pub coded_byte_map : {X : Type 0} → Coded X → Coded (ByteMap X)
coded_byte_map coded = code (coded_list coded_ℕ) coded

-- a key of the tree
abbrev pub Bytes : Type 0
Bytes = Vec ℕ Global

-- the order of the keys of the tree
abbrev pub key_cmp : Bytes → Bytes → Ordering
key_cmp x y = byte_cmp x.items y.items

-- whether a key has these bytes
abbrev pub has_bytes : List ℕ → Bytes → Bool
has_bytes bytes = is_at (λ key. byte_cmp bytes key.items)

-- an entry of the tree: the key's bytes and the value
abbrev pub seen_entry : {X : Type 0} → Bytes × X → List ℕ × X
seen_entry e = (e.0.items, e.1)

-- the map that a tree with these entries keeps
abbrev pub map_of : {X : Type 0} → List (Bytes × X) → ByteMap X
map_of es = from_entries (map seen_entry es)

-- one entry after another is put into the map
abbrev pub put_each : {X : Type 0} → ByteMap X → List (List ℕ × X) → ByteMap X
put_each m [] = m
put_each m (e ∷ es) = put_each (insert m e.0 e.1) es
