-- For private contracts: texts that are found by two pieces which a slash joins.
use Rattle.std.specs.Prelude.{◌≡◌, ◌==◌, ℕ, Bool, false, List}
use Rattle.std.specs.BTreeSet.{BTreeSet}
use Rattle.std.specs.FinMap.{get}
use Rattle.std.specs.List.{list_any}
use Rattle.std.specs.Option.{option_map_or}
use Rattle.gv_base.specs.ByteMap.{ByteMap}
use Rattle.gv_base.specs.Order.{has_text}
use Rattle.gv_reading.specs.Paths.{within}

abbrev pub has_slash : List ℕ → Bool
has_slash text = list_any (λ b. b == 47) text

-- the first pieces by the second one
abbrev pub Firsts : Type 0
Firsts = ByteMap (BTreeSet (List ℕ))

abbrev pub has_pair : Firsts → (first second : List ℕ) → Bool
has_pair map first second = option_map_or (λ (firsts : BTreeSet (List ℕ)). has_text firsts.keys first) (get map second) false

-- each text is in the map by its pieces
abbrev pub HasPairs : Firsts → (texts : List (List ℕ)) → Type 0
HasPairs map texts = (first second : List ℕ) → has_slash first ≡ false → has_pair map first second ≡ has_text texts (within first second)
