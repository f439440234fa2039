-- What a trail shows of a set: words of private functions.
-- What is open (`IsOpen`) and what clashes (`Clashes`) is all that the parts of the solver tell each other: a set
-- clashes where no partial assignment has its inputs off and leaves no clause false or unit. It is found to where
-- propagation from level 0 with its inputs off ends in a false clause, or turns a member on (`IsClash`).
use Rattle.std.specs.Prelude.{◌≡◌, ◌⊎◌, ℕ, ◌+◌, ◌*◌, true, false, Option, Some, None, List, [], ◌∷◌, ◌/◌, replicate}
use Rattle.std.specs.List.{AllByRecursion}
use Rattle.gv_logic.specs.Kept.{IsOpen, IsTight, IsRising}
use Rattle.gv_logic.specs.Partial.{is_true, Has}
use Rattle.gv_trail.specs.Entries.{Entry, State, assignment}
use Rattle.gv_trail.specs.Derived.{IsDerived}
use Rattle.gv_trail.specs.Propagation.{IsFalseAt}

-- The set clashes with the clauses.
abbrev pub Clashes : List ℕ → List (List ℕ) → Type 0
Clashes set cs = IsOpen set cs → ⊥

-- each decision puts a member off
abbrev pub AreAmong : List ℕ → List Entry → Type 0
AreAmong set es = AllByRecursion (λ e. e.reason ≡ None → (i : ℕ) × Has i set × (e.lit ≡ 2 * i + 1)) es

-- the decisions put members off, and then a clause is false or a member is on
pub record IsClash (cs : List (List ℕ)) (set : List ℕ) (s : State) (k : ℕ) : Type 0 where
  pub among : AreAmong set s.entries
  pub ends : IsFalseAt cs (assignment s) k ⊎ ((i : ℕ) × Has i set × (is_true (assignment s) (2 * i) ≡ true))

abbrev pub Derived : List (List ℕ) → State → Type 0
Derived cs s = IsDerived cs (replicate (2 * s.variables) false) s.entries

-- what propagation with the set's members off says: the set is open, or how it clashes
abbrev pub Says : List (List ℕ) → List ℕ → State → Option ℕ → Type 0
Says cs set s None = IsOpen set cs
Says cs set s (Some k) = IsClash cs set s k

-- a set that clashes, made less till it does so no more without any one of its members
pub record Drops (cs : List (List ℕ)) (old new : List ℕ) : Type 0 where
  pub clash : Clashes new cs
  pub tight : IsTight new cs
  pub within : (i : ℕ) → Has i new → Has i old
  pub rising : (b t : ℕ) → IsRising b t old → IsRising b t new

-- the variables that were decided, in order
abbrev pub decided_or : Option ℕ → ℕ → List ℕ → List ℕ
decided_or None lit rest = lit / 2 ∷ rest
decided_or (Some k) lit rest = rest

abbrev pub decided : List Entry → List ℕ
decided [] = []
decided (e ∷ es) = decided_or e.reason e.lit (decided es)
