-- Literals by their numbers, and their truth at values of the variables.
use Rattle.std.specs.Prelude.{◌≡◌, ℕ, ◌+◌, ◌-◌, ◌/◌, ◌%◌, nat_eq, Bool, true, false, ◌||◌, not, if◌then◌else◌, List, [], ◌∷◌}
use Rattle.std.specs.List.{AllByRecursion}

-- the literal of variable v is 2 * v, its opposite 2 * v + 1
abbrev pub opposite : ℕ → ℕ
opposite lit = if nat_eq (lit % 2) 0 then lit + 1 else lit - 1

abbrev pub lit_true : (ℕ → Bool) → ℕ → Bool
lit_true v lit = if nat_eq (lit % 2) 0 then v (lit / 2) else not (v (lit / 2))

-- a clause is true where one of its literals is
abbrev pub clause_true : (ℕ → Bool) → List ℕ → Bool
clause_true v [] = false
clause_true v (lit ∷ lits) = lit_true v lit || clause_true v lits

abbrev pub AllTrue : (ℕ → Bool) → List (List ℕ) → Type 0
AllTrue v cs = AllByRecursion (λ c. clause_true v c ≡ true) cs
