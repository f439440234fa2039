-- The steps that prove bits least: words of private functions.
-- Where all inputs are assigned and no clause is false or unit, the bits are the least ones. For each input that is on
-- a step is added which says that it or a lower one that is off has to be on (`prove_least`).
use Rattle.std.specs.Prelude.{◌≡◌, ℕ, ◌+◌, ◌<◌, ◌≤◌, Bool, true, false, List, ◌++◌, length, slice_index_or}
use Rattle.gv_logic.specs.Formulas.{Formula}
use Rattle.gv_solver.specs.Clash.{Clashes}
use Rattle.gv_trail.specs.Entries.{State, assignment}
use Rattle.gv_solver.specs.Found.{bits_to}
use Rattle.gv_logic.specs.Logs.{Step, IsValid, step_clauses, HasList, set_clause, least_set}

-- each input that is on clashes with its being off
abbrev pub AreOnByForce : List (List ℕ) → List Bool → ℕ → Type 0
AreOnByForce cs bits inputs = (i : ℕ) → i < inputs → slice_index_or bits i false ≡ true → Clashes (least_set bits i) cs

-- the log after the steps for the inputs below i
pub record IsProved (f : Formula) (names : List (List ℕ)) (bits : List Bool) (i : ℕ) (old log : List Step) : Type 0 where
  pub valid : IsValid f log
  pub more : List (List ℕ)
  pub names_are : f.clauses ++ step_clauses log ≡ names ++ more
  pub least : (j : ℕ) → j < i → slice_index_or bits j false ≡ true → HasList (set_clause (least_set bits j)) (step_clauses log)
  pub count : length log ≤ length old + i

-- the same, for whatever clauses the names and the log are of
abbrev pub Proves : Formula → List Bool → ℕ → List Step → List Step → Type 0
Proves names bits i old log =
    (f : Formula) → f.variables ≡ names.variables → IsValid f old → names.clauses ≡ f.clauses ++ step_clauses old → IsProved f names.clauses bits i old log

-- the bits of a trail, and a log behind another that proves them least
pub record AreLeastBits (names : Formula) (inputs : ℕ) (s : State) (bits : List Bool) (old log : List Step) : Type 0 where
  pub are : bits ≡ bits_to (assignment s) inputs
  pub proves : Proves names bits inputs old log
