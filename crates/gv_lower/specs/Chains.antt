-- The items of an atom by the flags that they name, as the code keeps them.
use Rattle.std.specs.Prelude.{◌≡◌, ℕ, ◌+◌, ◌<◌, if◌then◌else◌, List, [], ◌∷◌, ◌++◌, length, Option, None, Some}
use Rattle.std.specs.Borrow.{Bor}
use Rattle.std.specs.BTreeMap.{is_at}
use Rattle.std.specs.Map.{lookup}
use Rattle.std.specs.List.{slice_index_or}
use Rattle.std.specs.Str.{bytes_eq}
use Rattle.gv_base.specs.Order.{byte_cmp}
use Rattle.gv_atom.specs.declared.items.UseItem.{UseItem}

-- the place of the first item that names the flag, where the first item has the place n
abbrev pub next_naming : (n : ℕ) → List ℕ → List UseItem → Option ℕ
next_naming n flag [] = None
next_naming n flag (i ∷ items) = if bytes_eq i.flag flag then Some n else next_naming (n + 1) flag items

-- of each item, the last one first, the place of the next one that names its flag
abbrev pub later_of : (n : ℕ) → List UseItem → List (Option ℕ)
later_of n [] = []
later_of n (i ∷ items) = later_of (n + 1) items ++ next_naming (n + 1) i.flag items ∷ []

-- a look-up in a tree of flags
abbrev pub place_at : List (Bor (List ℕ) × ℕ) → Bor (List ℕ) → Option ℕ
place_at entries flag = lookup (is_at (λ (k : Bor (List ℕ)). byte_cmp flag.now k.now)) entries

-- the tree has the first place of each flag
abbrev pub HasFirst : List (Bor (List ℕ) × ℕ) → (n : ℕ) → List UseItem → Type 0
HasFirst entries n items = (flag : Bor (List ℕ)) → place_at entries flag ≡ next_naming n flag.now items

pub record AreChains (entries : List (Bor (List ℕ) × ℕ)) (next : List (Option ℕ)) (items : List UseItem) : Type 0 where
  pub first : HasFirst entries 0 items
  pub later : next ≡ later_of 0 items

-- the item at the place names the flag
abbrev pub HasFlag : List UseItem → ℕ → List ℕ → Type 0
HasFlag items p flag = (p < length items) × ((d : UseItem) → (slice_index_or items p d).flag ≡ flag)
