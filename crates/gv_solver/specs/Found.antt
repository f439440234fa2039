-- What the search over clauses finds: words of private functions, from which `solve` goes to the gates.
-- Most searches end with the first way down: the bits are found, or a clause is false at level 0. So the clauses are
-- copied, and a second trail for the probes is there, only behind a conflict above it (`learn`). The first way down is
-- then taken once more, and its trail is that of the probes. Each further clause is attached to both.
use Rattle.std.specs.Prelude.{◌≡◌, ℕ, zero, suc, ◌*◌, ◌<◌, Bool, List, [], ◌∷◌, ◌++◌, length}
use Rattle.std.specs.List.{AllByRecursion}
use Rattle.gv_logic.specs.Formulas.{Formula}
use Rattle.gv_logic.specs.Kept.{IsRising}
use Rattle.gv_logic.specs.Logs.{Step, IsValid, ProvesNone, ProvesLeast, HasList, step_clauses, set_clause}
use Rattle.gv_logic.specs.Partial.{is_true, AllQuiet, IsProper}
use Rattle.gv_solver.specs.Answer.{IsShort}
use Rattle.gv_solver.specs.Search.{IsAssigned}
use Rattle.gv_solver.specs.Work.{AreNewSets}
use Rattle.gv_solver.specs.declared.answer.Answer.{Answer}
use Rattle.gv_solver.specs.declared.answer.Answer.TheVariants.{Refuted, Found, Spent}

-- the inputs' values
abbrev pub bits_to : List Bool → ℕ → List Bool
bits_to on zero = []
bits_to on (suc n) = bits_to on n ++ is_true on (2 * n) ∷ []

-- a partial assignment with these inputs that leaves no clause false or unit
pub record HasModel (cs : List (List ℕ)) (inputs : ℕ) (bits : List Bool) : Type 0 where
  pub on : List Bool
  pub proper : IsProper on
  pub quiet : AllQuiet on cs
  pub assigned : (j : ℕ) → j < inputs → IsAssigned on j
  pub bits_are : bits ≡ bits_to on inputs

pub record IsRefutation (f : Formula) (inputs budget : ℕ) (log : List Step) : Type 0 where
  pub valid : IsValid f log
  pub proves : ProvesNone log
  pub short : IsShort inputs budget log

pub record IsLeastModel (f : Formula) (inputs budget : ℕ) (bits : List Bool) (log : List Step) : Type 0 where
  pub model : HasModel f.clauses inputs bits
  pub valid : IsValid f log
  pub proves : ProvesLeast log bits
  pub short : IsShort inputs budget log

pub record IsSpent (f : Formula) (inputs budget : ℕ) (log : List Step) (sets : List (List ℕ)) : Type 0 where
  pub valid : IsValid f log
  pub kept : AreNewSets f.clauses [] sets
  pub count : length sets ≡ budget
  pub rising : AllByRecursion (IsRising 0 inputs) sets
  pub stand : AllByRecursion (λ set. HasList (set_clause set) (step_clauses log)) sets
  pub short : IsShort inputs budget log

abbrev pub IsAnswer : Formula → ℕ → ℕ → Answer → Type 0
IsAnswer f inputs budget (Refuted log) = IsRefutation f inputs budget log
IsAnswer f inputs budget (Found bits log) = IsLeastModel f inputs budget bits log
IsAnswer f inputs budget (Spent log sets) = IsSpent f inputs budget log sets
