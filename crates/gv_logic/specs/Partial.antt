-- Partial assignments, and clauses that are false, unit or neither under them. A partial assignment
-- says of each literal, by its number, whether it is true. Past the list no literal is.
use Rattle.std.specs.Prelude.{◌≡◌, ◌⊎◌, ℕ, ◌+◌, nat_eq, Bool, true, false, ◌&&◌, not, if◌then◌else◌, List, [], ◌∷◌, Option, Some, None, slice_index_or}
use Rattle.std.specs.List.{AllByRecursion}
use Rattle.gv_logic.specs.Literals.{opposite}

abbrev pub is_true : List Bool → ℕ → Bool
is_true on lit = slice_index_or on lit false

-- how many literals are true
abbrev pub trues : List Bool → ℕ
trues [] = 0
trues (true ∷ bs) = trues bs + 1
trues (false ∷ bs) = trues bs

-- the clause is false
abbrev pub all_false : List Bool → List ℕ → Bool
all_false on [] = true
all_false on (lit ∷ lits) = is_true on (opposite lit) && all_false on lits

abbrev pub is_other : Option ℕ → ℕ → Bool
is_other None lit = false
is_other (Some found) lit = not (nat_eq found lit)

-- The literal that isn't assigned, where no literal is true and there is one such literal, counted
-- as a value. `found` is the one among the literals before.
abbrev pub unit_after : List Bool → Option ℕ → List ℕ → Option ℕ
unit_after on found [] = found
unit_after on found (lit ∷ lits) =
    if is_true on lit then None
    else if is_true on (opposite lit) then unit_after on found lits
    else if is_other found lit then None
    else unit_after on (Some lit) lits

-- neither false nor unit
abbrev pub Quiet : List Bool → List ℕ → Type 0
Quiet on lits = (all_false on lits ≡ false) × (unit_after on None lits ≡ None)

abbrev pub AllQuiet : List Bool → List (List ℕ) → Type 0
AllQuiet on cs = AllByRecursion (Quiet on) cs

abbrev pub Has : ℕ → List ℕ → Type 0
Has lit [] = ⊥
Has lit (x ∷ xs) = (x ≡ lit) ⊎ Has lit xs

-- the literal isn't assigned, the clause has it, and its other literals are false
pub record IsUnit (on : List Bool) (lits : List ℕ) (lit : ℕ) : Type 0 where
  pub has : Has lit lits
  pub free : (is_true on lit ≡ false) × (is_true on (opposite lit) ≡ false)
  pub others : AllByRecursion (λ x. (x ≡ lit) ⊎ (is_true on (opposite x) ≡ true)) lits

-- no variable is on and off
pub record IsProper (on : List Bool) : Type 0 where
  pub both : (lit : ℕ) → is_true on lit ≡ true → is_true on (opposite lit) ≡ true → ⊥
