-- What holds on the way down, with the least undecided input decided at each level: words of private functions.
-- The least undecided input is decided off after each complete propagation (`descend`), until a clause is false or all
-- inputs are assigned.
use Rattle.std.specs.Prelude.{◌≡◌, ◌⊎◌, ℕ, ◌+◌, ◌*◌, ◌/◌, ◌<◌, ◌≤◌, ◌^◌, Bool, true, false, Some, None, List, [], ◌∷◌, ◌++◌, slice_get, slice_set, replicate}
use Rattle.gv_logic.specs.Formulas.{Formula}
use Rattle.gv_logic.specs.Kept.{IsWithin, IsRising}
use Rattle.gv_logic.specs.Logs.{set_clause}
use Rattle.gv_logic.specs.Literals.{opposite}
use Rattle.gv_logic.specs.Partial.{is_true, all_false, Has, AllQuiet}
use Rattle.gv_trail.specs.declared.propagation.Propagation.{Propagation}
use Rattle.gv_trail.specs.declared.propagation.Propagation.TheVariants.{Fixed, Conflict}
use Rattle.gv_trail.specs.Entries.{Entry, State, assignment, made_true, front_to}
use Rattle.gv_trail.specs.Derived.{IsTrail}
use Rattle.gv_trail.specs.Propagation.{IsFalseAt}
use Rattle.gv_trail.specs.Watches.{IsIn}
use Rattle.gv_solver.specs.Clash.{decided}

abbrev pub IsAssigned : List Bool → ℕ → Type 0
IsAssigned on i = (is_true on (2 * i) ≡ true) ⊎ (is_true on (2 * i + 1) ≡ true)

-- the literal puts an input off, and the inputs below it are assigned
abbrev pub IsLeast : List Bool → ℕ → Type 0
IsLeast on lit = (lit ≡ 2 * (lit / 2) + 1) × ((j : ℕ) → j < lit / 2 → IsAssigned on j)

-- each decision is the least input that wasn't assigned
abbrev pub IsOrdered : List Bool → List Entry → Type 0
IsOrdered on [] = Unit {0}
IsOrdered on (e ∷ es) = (e.reason ≡ None → IsLeast on e.lit) × IsOrdered (slice_set on e.lit true) es

-- no set whose clause is there is wholly decided
abbrev pub AreFree : List (List ℕ) → List ℕ → Type 0
AreFree cs inputs = (t : ℕ) (ts : List ℕ) (k : ℕ) → slice_get cs k ≡ Some (set_clause (t ∷ ts)) → IsWithin (t ∷ ts) inputs → ⊥

-- a trail that is at work on so many inputs
pub record Ready (f : Formula) (inputs : ℕ) (s : State) : Type 0 where
  pub over : IsTrail f s
  pub few : f.variables ≤ 2 ^ 30
  pub wide : inputs ≤ f.variables

-- the inputs below i are assigned
pub record IsSearch (cs : List (List ℕ)) (i : ℕ) (s : State) : Type 0 where
  pub ordered : IsOrdered (replicate (2 * s.variables) false) s.entries
  pub rising : IsRising 0 i (decided s.entries)
  pub free : AreFree cs (decided s.entries)
  pub assigned : (j : ℕ) → j < i → IsAssigned (assignment s) j

-- how the way down ends
pub record IsSearched (cs : List (List ℕ)) (inputs : ℕ) (s : State) : Type 0 where
  pub ordered : IsOrdered (replicate (2 * s.variables) false) s.entries
  pub rising : IsRising 0 inputs (decided s.entries)
  pub free : AreFree cs (decided s.entries)

-- the clause has a literal that is false by an entry of the present level
pub record IsLate (s : State) (clause : List ℕ) : Type 0 where
  pub entry : Entry
  pub among : IsIn entry s.entries
  pub level : entry.level ≡ s.level
  pub has : Has (opposite entry.lit) clause

abbrev pub IsLateAt : List (List ℕ) → State → ℕ → Type 0
IsLateAt cs s k = (c : List ℕ) → slice_get cs k ≡ Some c → IsLate s c

-- no clause is false
abbrev pub NoneFalse : List (List ℕ) → List Bool → Type 0
NoneFalse cs on = (k : ℕ) (c : List ℕ) → slice_get cs k ≡ Some c → all_false on c ≡ false

-- what was assigned at the present level began where no clause was false
pub record Began (cs : List (List ℕ)) (s : State) : Type 0 where
  pub before : List Entry
  pub more : List Entry
  pub entries : s.entries ≡ before ++ more
  pub here : (e : Entry) → IsIn e more → e.level ≡ s.level
  pub open_ : NoneFalse cs (made_true (replicate (2 * s.variables) false) before)

abbrev pub TellsBegan : List (List ℕ) → State → Propagation → Type 0
TellsBegan cs s Fixed = Unit {0}
TellsBegan cs s (Conflict k) = 0 < s.level → Began cs s

-- where a way down goes on: the inputs below i are assigned, and a decision falsified no clause
pub record IsResumed (cs : List (List ℕ)) (i : ℕ) (s : State) : Type 0 where
  pub search : IsSearch cs i s
  pub open_ : 0 < s.level → NoneFalse cs (assignment s)

-- what is assigned is the same
pub record IsSameWay (old new : State) : Type 0 where
  pub variables : new.variables ≡ old.variables
  pub entries : new.entries ≡ old.entries

-- the decision of an input and all behind it are gone
pub record TakesBack (cs : List (List ℕ)) (i : ℕ) (old new : State) : Type 0 where
  pub search : IsSearch cs i new
  pub below : new.level < old.level
  pub entries : new.entries ≡ front_to new.level old.entries
  pub free : is_true (assignment new) (2 * i + 1) ≡ false

abbrev pub Arrives : List (List ℕ) → ℕ → State → Propagation → Type 0
Arrives cs inputs s Fixed = AllQuiet (assignment s) cs × ((j : ℕ) → j < inputs → IsAssigned (assignment s) j)
Arrives cs inputs s (Conflict k) = IsFalseAt cs (assignment s) k
