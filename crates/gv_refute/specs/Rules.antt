-- When a step follows, rule by rule.
use Rattle.std.specs.Prelude.{◌≡◌, ◌≢◌, ◌⊎◌, ℕ, ◌<◌, Bool, true, false, List, [], ◌∷◌, Some, slice_get, slice_set, replicate}
use Rattle.std.specs.List.{AllByRecursion}
use Rattle.gv_logic.specs.Literals.{opposite}
use Rattle.gv_logic.specs.Partial.{is_true, Has}

-- literals below n, none twice and none with its opposite
abbrev pub IsPlain : ℕ → List ℕ → Type 0
IsPlain n [] = Unit {0}
IsPlain n (l ∷ ls) = (l < n) × AllByRecursion (λ m. (m ≢ l) × (m ≢ opposite l)) ls × IsPlain n ls

-- the opposites of a clause's literals become true
abbrev pub all_off : List Bool → List ℕ → List Bool
all_off on [] = on
all_off on (l ∷ ls) = all_off (slice_set on (opposite l) true) ls

-- no literal of the clause is true, and this is the only one, counted as a value, that isn't assigned
pub record OneLeft (on : List Bool) (lits : List ℕ) (lit : ℕ) : Type 0 where
  pub has : Has lit lits
  pub none_true : AllByRecursion (λ x. is_true on x ≡ false) lits
  pub not_false : is_true on (opposite lit) ≡ false
  pub others : AllByRecursion (λ x. (x ≡ lit) ⊎ (is_true on (opposite x) ≡ true)) lits

-- each hint names a clause; each but the last makes its one literal true, and that of the last is false
abbrev pub Refutes : List ℕ → List (List ℕ) → List Bool → Type 0
Refutes [] names on = ⊥
Refutes (h ∷ []) names on = (c : List ℕ) × (slice_get names h ≡ Some c) × AllByRecursion (λ x. is_true on (opposite x) ≡ true) c
Refutes (h ∷ g ∷ hs) names on =
    (c : List ℕ) × (lit : ℕ) × (slice_get names h ≡ Some c) × OneLeft on c lit × Refutes (g ∷ hs) names (slice_set on lit true)

-- the clause is plain, and with all its literals false and nothing else assigned the hints refute it
abbrev pub Follows : ℕ → List (List ℕ) → List ℕ → List ℕ → Type 0
Follows n names clause hints = IsPlain n clause × Refutes hints names (all_off (replicate n false) clause)
