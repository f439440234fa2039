-- What a solver has learned: words of private functions.
-- The rounds keep one record (`IsWork`): the clauses are those that were given and those of the log's steps; the log is
-- valid; the clause of each set is a step's; each set is kept over the clauses and the sets before it. Beside it each
-- set takes at most two steps of the log, and the bound on the log falls out of that.
use Rattle.std.specs.Prelude.{◌≡◌, ℕ, ◌+◌, ◌*◌, ◌<◌, ◌≤◌, Bool, true, false, List, [], ◌∷◌, ◌++◌, length}
use Rattle.std.specs.List.{AllByRecursion}
use Rattle.gv_logic.specs.Formulas.{Formula}
use Rattle.gv_logic.specs.Kept.{IsWithin, IsTight, IsRising, set_clauses}
use Rattle.gv_solver.specs.Clash.{Clashes}
use Rattle.gv_logic.specs.Logs.{Step, IsValid, HasList, follows, step_clauses, set_clause}
use Rattle.gv_logic.specs.Partial.{all_false}
use Rattle.gv_solver.specs.Search.{AreFree}
use Rattle.gv_solver.specs.declared.rounds.Work.{Work}

-- a set that is learned after the earlier ones
pub record IsNewSet (cs : List (List ℕ)) (earlier : List (List ℕ)) (set : List ℕ) : Type 0 where
  pub some : 0 < length set
  pub apart : AllByRecursion (λ other. IsWithin other set → ⊥) earlier
  pub tight : IsTight set (cs ++ set_clauses earlier)

abbrev pub AreNewSets : List (List ℕ) → List (List ℕ) → List (List ℕ) → Type 0
AreNewSets cs earlier [] = Unit {0}
AreNewSets cs earlier (set ∷ sets) = IsNewSet cs earlier set × AreNewSets cs (earlier ++ set ∷ []) sets

-- the clauses are those that were given and those of the steps; the clause of each set is a step's
pub record IsWork (f : Formula) (inputs : ℕ) (w : Work) : Type 0 where
  pub variables : w.clauses.variables ≡ f.variables
  pub names : w.clauses.clauses ≡ f.clauses ++ step_clauses w.log
  pub valid : IsValid f w.log
  pub stand : AllByRecursion (λ set. HasList (set_clause set) (step_clauses w.log)) w.sets
  pub kept : AreNewSets f.clauses [] w.sets
  pub rising : AllByRecursion (IsRising 0 inputs) w.sets

-- the set that a conflict leaves
pub record IsFoundSet (f : Formula) (inputs : ℕ) (set : List ℕ) : Type 0 where
  pub rising : IsRising 0 inputs set
  pub clash : Clashes set f.clauses
  pub tight : IsTight set f.clauses
  pub free : AreFree f.clauses set

-- a step that follows
abbrev pub Lesson : Formula → Step → Type 0
Lesson f step = follows (2 * f.variables) f.clauses step.clause step.hints ≡ true

-- the step's clause isn't false
abbrev pub IsOpenStep : List Bool → Step → Type 0
IsOpenStep on step = all_false on step.clause ≡ false

pub record TakesStep (old : Work) (step : Step) (after : Work) : Type 0 where
  pub clauses : after.clauses ≡ record { variables = old.clauses.variables; clauses = old.clauses.clauses ++ step.clause ∷ [] }
  pub log : after.log ≡ old.log ++ step ∷ []
  pub sets : after.sets ≡ old.sets

-- a step more at most, and no set
pub record Learns (old new : Work) : Type 0 where
  pub variables : new.clauses.variables ≡ old.clauses.variables
  pub more : List (List ℕ)
  pub names : new.clauses.clauses ≡ old.clauses.clauses ++ more
  pub sets : new.sets ≡ old.sets
  pub count : length new.log ≤ length old.log + 1
  pub work : (f : Formula) (inputs : ℕ) → IsWork f inputs old → IsWork f inputs new
