-- What an answer carries.
use Rattle.std.specs.Prelude.{◌≡◌, ℕ, ◌+◌, ◌*◌, ◌^◌, ◌<◌, ◌≤◌, Bool, List, [], length}
use Rattle.std.specs.List.{AllByRecursion}
use Rattle.gv_base.specs.Least.{IsLeast, HasNone}
use Rattle.gv_logic.specs.Backed.{BacksNone, BacksBits}
use Rattle.gv_logic.specs.Circuits.{Circuit, value}
use Rattle.gv_logic.specs.Encoding.{formula_of}
use Rattle.gv_logic.specs.Kept.{AreKept}
use Rattle.gv_logic.specs.Logs.{Step, IsValid, HasList, step_clauses, set_clause}
use Rattle.gv_solver.specs.declared.answer.Answer.{Answer}
use Rattle.gv_solver.specs.declared.answer.Answer.TheVariants.{Refuted, Found, Spent}

-- a log has at most two steps for each kept set, two for a conflict that leaves none, and one for each input
abbrev pub IsShort : ℕ → ℕ → List Step → Type 0
IsShort inputs budget log = length log ≤ 2 * budget + inputs + 2

-- no bits give the root true, and the log proves it
pub record RefutesGates (g : Circuit) (budget : ℕ) (log : List Step) : Type 0 where
  pub none : HasNone (value g) g.inputs
  pub backed : BacksNone g log
  pub short : IsShort g.inputs budget log

-- the least bits that give the root true, and the log proves them least
pub record FindsLeast (g : Circuit) (budget : ℕ) (bits : List Bool) (log : List Step) : Type 0 where
  pub least : IsLeast (value g) g.inputs bits
  pub backed : BacksBits g bits log
  pub short : IsShort g.inputs budget log

-- as many kept sets as the budget allows, of fewer than all sets of inputs; the clause of each is a step's
pub record SpendsBudget (g : Circuit) (budget : ℕ) (log : List Step) (sets : List (List ℕ)) : Type 0 where
  pub kept : AreKept g [] sets
  pub count : length sets ≡ budget
  pub wide : budget < 2 ^ g.inputs
  pub valid : IsValid (formula_of g) log
  pub stand : AllByRecursion (λ set. HasList (set_clause set) (step_clauses log)) sets
  pub short : IsShort g.inputs budget log

abbrev pub Answers : Circuit → ℕ → Answer → Type 0
Answers g budget (Refuted log) = RefutesGates g budget log
Answers g budget (Found bits log) = FindsLeast g budget bits log
Answers g budget (Spent log sets) = SpendsBudget g budget log sets
