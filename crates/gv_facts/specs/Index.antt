-- For invariants and the contracts of private functions: what the indexes of the long lists hold.
use Rattle.std.specs.Prelude.{◌≡◌, ℕ, Bool, List, [], unwrap_or}
use Rattle.std.specs.declared.vec.Vec.{Vec}
use Rattle.std.specs.declared.alloc.Global.{Global}
use Rattle.std.specs.Map.{lookup}
use Rattle.std.specs.Option.{option_map_or}
use Rattle.std.specs.Str.{bytes_eq}
use Rattle.gv_facts.specs.declared.index.Index.{Index}
use Rattle.gv_facts.specs.declared.index.PairIndex.{PairIndex}
use Rattle.gv_facts.specs.declared.masks.Mask.{Mask}
use Rattle.gv_facts.specs.declared.pkg.Pkg.{Pkg}
use Rattle.gv_facts.specs.declared.rules.Rule.{Rule}
use Rattle.gv_facts.specs.Places.{names_flag, is_mask_of, is_pkg_of, places_of}

-- whether a key has these bytes
abbrev pub is_key : List ℕ → Vec ℕ Global → Bool
is_key bytes key = bytes_eq bytes key.items

-- the places at a name
abbrev pub places_at : Index → List ℕ → List ℕ
places_at index key = unwrap_or (lookup (is_key key) index.map.entries) []

-- the places at a category and a name
abbrev pub pair_places : PairIndex → (category name : List ℕ) → List ℕ
pair_places index category name = option_map_or (λ (names : Index). places_at names name) (lookup (is_key category) index.map.entries) []

-- the index has the places of all items at each name
abbrev pub HasRules : Index → List Rule → Type 0
HasRules index rules = (flag : List ℕ) → places_at index flag ≡ places_of (names_flag flag) rules

abbrev pub HasMasks : PairIndex → List Mask → Type 0
HasMasks index masks = (category name : List ℕ) → pair_places index category name ≡ places_of (is_mask_of category name) masks

abbrev pub HasPkgs : PairIndex → List Pkg → Type 0
HasPkgs index pkgs = (category name : List ℕ) → pair_places index category name ≡ places_of (is_pkg_of category name) pkgs
