-- Sets of inputs that are open over clauses or clash with them, and lists of kept sets.
use Rattle.std.specs.Prelude.{◌≡◌, ℕ, ◌+◌, ◌*◌, ◌<◌, ◌≤◌, Bool, true, false, List, [], ◌∷◌, ◌++◌, map, length, slice_index_or}
use Rattle.std.specs.List.{AllByRecursion, remove}
use Rattle.gv_logic.specs.Partial.{is_true, AllQuiet, Has, IsProper}
use Rattle.gv_logic.specs.Circuits.{Circuit, value}
use Rattle.gv_logic.specs.Encoding.{all_clauses}
use Rattle.gv_logic.specs.Logs.{set_clause}

-- rising numbers from b on and below t
abbrev pub IsRising : ℕ → ℕ → List ℕ → Type 0
IsRising b t [] = b ≤ t
IsRising b t (i ∷ is) = (b ≤ i) × IsRising (i + 1) t is

-- the set's inputs are off under a partial assignment
abbrev pub AllOff : List Bool → List ℕ → Type 0
AllOff on set = AllByRecursion (λ i. is_true on (2 * i + 1) ≡ true) set

-- a partial assignment in which the set's inputs are off and which leaves no clause false or unit
pub record IsOpen (set : List ℕ) (cs : List (List ℕ)) : Type 0 where
  pub on : List Bool
  pub proper : IsProper on
  pub off : AllOff on set
  pub quiet : AllQuiet on cs

-- each member of the first is one of the second
abbrev pub IsWithin : List ℕ → List ℕ → Type 0
IsWithin xs ys = AllByRecursion (λ i. Has i ys) xs

-- none of the sets contains an earlier one
abbrev pub AreApart : List (List ℕ) → Type 0
AreApart [] = Unit {0}
AreApart (s ∷ ss) = AllByRecursion (λ t. IsWithin s t → ⊥) ss × AreApart ss

-- with any one of its members left out it doesn't clash
abbrev pub IsTight : List ℕ → List (List ℕ) → Type 0
IsTight set cs = (i : ℕ) → i < length set → IsOpen (remove set i) cs

abbrev pub set_clauses : List (List ℕ) → List (List ℕ)
set_clauses sets = map set_clause sets

-- the set's inputs are off in these bits
abbrev pub AreOff : List Bool → List ℕ → Type 0
AreOff bits set = AllByRecursion (λ i. slice_index_or bits i false ≡ false) set

-- a kept set for gates, behind the earlier sets
pub record IsKept (g : Circuit) (earlier : List (List ℕ)) (set : List ℕ) : Type 0 where
  pub rising : IsRising 0 g.inputs set
  pub some : 0 < length set
  pub apart : AllByRecursion (λ other. IsWithin other set → ⊥) earlier
  pub needed : (bits : List Bool) → length bits ≡ g.inputs → value g bits ≡ true → AreOff bits set → ⊥
  pub tight : IsTight set (all_clauses g ++ set_clauses earlier)

abbrev pub AreKept : Circuit → List (List ℕ) → List (List ℕ) → Type 0
AreKept g earlier [] = Unit {0}
AreKept g earlier (set ∷ sets) = IsKept g earlier set × AreKept g (earlier ++ set ∷ []) sets
