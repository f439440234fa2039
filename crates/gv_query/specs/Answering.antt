-- Answers as claims: why there is none, and what is counted.
use Rattle.std.specs.Prelude.{◌≡◌, ℕ, List, Result, Ok, Err, if◌then◌else◌}
use Rattle.gv_base.specs.Counts.{Counts}
use Rattle.gv_base.specs.Steps.{after}
use Rattle.gv_base.specs.declared.steps.Kind.TheVariants.{Solve}
use Rattle.gv_cert.specs.Known.{KnownRecord}
use Rattle.gv_logic.specs.Circuits.{Circuit}
use Rattle.gv_query.specs.Asking.{IsSpent, MayCount}
use Rattle.gv_query.specs.declared.answering.Answer.{Answer}
use Rattle.gv_query.specs.declared.answering.AskFault.{AskFault}
use Rattle.gv_query.specs.declared.answering.AskFault.TheVariants as asking

-- no record is backed and the budget is spent
abbrev pub SpentBy : Circuit → (budget : ℕ) → (given : List KnownRecord) → AskFault → Type 0
SpentBy g budget given (asking.Spent sets) = IsSpent g budget given sets
SpentBy g budget given asking.NoMemory = Unit {0}

-- what is counted: one more that is solved, but where a record was reused
abbrev pub CountsAnswer : Result Answer AskFault → (before now : Counts) → Type 0
CountsAnswer (Ok answer) before now = now ≡ (if answer.reused then before else after Solve before)
CountsAnswer (Err (asking.Spent sets)) before now = now ≡ after Solve before
CountsAnswer (Err asking.NoMemory) before now = MayCount before now
