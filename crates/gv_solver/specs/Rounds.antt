-- One round of the solver: words of private functions.
-- Where a clause is false, the set of the decisions that it rests on is taken (`resting`), and in rising order each
-- member is dropped without which the others still clash (`drop_members`). Then the clause of the conflict's first
-- implication point is a step and is attached (`first_point`, found before the members were dropped). Where nothing is
-- left of the set, the empty clause is a step and the clauses are refuted. Else the set is kept, its clause is a step
-- and is attached, and the way down goes on from the level below that of the set's last decision (`retreat`). Where a
-- further set would be kept past the budget, the budget is spent.
use Rattle.std.specs.Prelude.{◌≡◌, ℕ, ◌+◌, ◌<◌, ◌≤◌, List, [], ◌∷◌, ◌++◌, length}
use Rattle.gv_logic.specs.Formulas.{Formula}
use Rattle.gv_logic.specs.Logs.{Step, IsValid, ProvesNone, set_clause}
use Rattle.gv_logic.specs.Partial.{AllQuiet}
use Rattle.gv_trail.specs.Entries.{State, assignment}
use Rattle.gv_solver.specs.Search.{IsSearched, IsResumed, IsAssigned}
use Rattle.gv_solver.specs.Work.{IsWork}
use Rattle.gv_solver.specs.declared.rounds.Work.{Work}
use Rattle.gv_solver.specs.declared.rounds.Round.{Round}
use Rattle.gv_solver.specs.declared.rounds.Round.TheVariants.{Model, Empty, Kept, Full}

-- no clause is false or unit, and all inputs are assigned
pub record IsModel (cs : List (List ℕ)) (inputs : ℕ) (s : State) : Type 0 where
  pub searched : IsSearched cs inputs s
  pub quiet : AllQuiet (assignment s) cs
  pub assigned : (j : ℕ) → j < inputs → IsAssigned (assignment s) j

-- a valid log whose last clause is empty
pub record IsRefuted (f : Formula) (old new : Work) : Type 0 where
  pub valid : IsValid f new.log
  pub proves : ProvesNone new.log
  pub count : length new.log ≤ length old.log + 2

-- one more set, and the step of its clause is the log's last
pub record IsLastSet (old new : Work) : Type 0 where
  pub set : List ℕ
  pub kept : new.sets ≡ old.sets ++ set ∷ []
  pub front : List Step
  pub step : Step
  pub log : new.log ≡ front ++ step ∷ []
  pub clause : step.clause ≡ set_clause set

-- one more set, with two steps at most
pub record IsOneMore (f : Formula) (inputs : ℕ) (old new : Work) : Type 0 where
  pub work : IsWork f inputs new
  pub sets : length new.sets ≡ length old.sets + 1
  pub last : IsLastSet old new
  pub count : length new.log ≤ length old.log + 2

pub record IsMore (f : Formula) (inputs budget : ℕ) (old new : Work) : Type 0 where
  pub more : IsOneMore f inputs old new
  pub room : length old.sets < budget

abbrev pub Rounds : Formula → ℕ → ℕ → Work → Work → State → Round → Type 0
Rounds f inputs budget old new s Model = (new ≡ old) × IsModel new.clauses.clauses inputs s
Rounds f inputs budget old new s Empty = IsRefuted f old new
Rounds f inputs budget old new s (Kept from) = IsMore f inputs budget old new
Rounds f inputs budget old new s Full = (new ≡ old) × (budget ≤ length new.sets)

-- behind a kept set the way down goes on
abbrev pub Resumes : List (List ℕ) → ℕ → State → Round → Type 0
Resumes cs inputs s Model = Unit {0}
Resumes cs inputs s Empty = Unit {0}
Resumes cs inputs s (Kept from) = (from ≤ inputs) × IsResumed cs from s
Resumes cs inputs s Full = Unit {0}
