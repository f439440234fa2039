-- What a propagation tells, and what it adds.
use Rattle.std.specs.Prelude.{◌≡◌, ℕ, ◌++◌, Bool, true, List, [], ◌∷◌, Some, slice_get, slice_set}
use Rattle.gv_logic.specs.Partial.{all_false, AllQuiet}
use Rattle.gv_trail.specs.declared.propagation.Propagation.{Propagation}
use Rattle.gv_trail.specs.declared.propagation.Propagation.TheVariants.{Fixed, Conflict}
use Rattle.gv_trail.specs.Entries.{Entry, State, assignment}
use Rattle.gv_trail.specs.Derived.{IsReason}

-- the clause of that number is false
pub record IsFalseAt (cs : List (List ℕ)) (on : List Bool) (number : ℕ) : Type 0 where
  pub clause : List ℕ
  pub named : slice_get cs number ≡ Some clause
  pub false_ : all_false on clause ≡ true

abbrev pub Tells : List (List ℕ) → State → Propagation → Type 0
Tells cs s Fixed = AllQuiet (assignment s) cs
Tells cs s (Conflict k) = IsFalseAt cs (assignment s) k

-- a literal at the present level, with its reason among the clauses
pub record IsForced (cs : List (List ℕ)) (level : ℕ) (on : List Bool) (e : Entry) : Type 0 where
  pub number : ℕ
  pub reason_is : e.reason ≡ Some number
  pub reason : IsReason cs on e.lit number
  pub level_is : e.level ≡ level

abbrev pub AreForced : List (List ℕ) → ℕ → List Bool → List Entry → Type 0
AreForced cs level on [] = Unit {0}
AreForced cs level on (e ∷ es) = IsForced cs level on e × AreForced cs level (slice_set on e.lit true) es

-- what was assigned stays, and each literal behind it has a reason
pub record Propagates (cs : List (List ℕ)) (old new : State) : Type 0 where
  pub variables : new.variables ≡ old.variables
  pub level : new.level ≡ old.level
  pub added : List Entry
  pub entries : new.entries ≡ old.entries ++ added
  pub forced : AreForced cs old.level (assignment old) added
