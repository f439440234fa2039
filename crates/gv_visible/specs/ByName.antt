-- For invariants: what a hash map of items by category and name holds.
use Rattle.std.specs.Prelude.{◌≡◌, ℕ, Bool, ◌&&◌, List, []}
use Rattle.std.specs.Borrow.{Bor}
use Rattle.std.specs.Map.{lookup}
use Rattle.std.specs.Option.{option_map_or}
use Rattle.std.specs.Str.{bytes_eq}
use Rattle.gv_facts.specs.Places.{places_of}

-- a category and a name
abbrev pub Key : Type 0
Key = Bor (List ℕ) × Bor (List ℕ)

abbrev pub is_key : (category name : List ℕ) → Key → Bool
is_key category name key = bytes_eq category key.0.now && bytes_eq name key.1.now

-- the places at a category and a name
abbrev pub places_at : List (Key × Bor (List ℕ)) → (category name : List ℕ) → List ℕ
places_at entries category name = option_map_or (λ (places : Bor (List ℕ)). places.now) (lookup (is_key category name) entries) []

-- they are those of all items of that category and name
abbrev pub HasPlaces : {X : Type 0} → ((category name : List ℕ) → X → Bool) → List (Key × Bor (List ℕ)) → List X → Type 0
HasPlaces is_of entries items = (category name : List ℕ) → places_at entries category name ≡ places_of (is_of category name) items
