-- What is counted where a query isn't lowered.
use Rattle.std.proofs.Common.{◌≡◌, ℕ, List, [], length, inl, inr, arith}
use Rattle.std.specs.Prelude.{Err}
use Rattle.gv_base.specs.Counts.{Counts}
use Rattle.gv_base.specs.Steps.{after}
use Rattle.gv_base.specs.declared.steps.Kind.TheVariants.{Lower}
use Rattle.gv_cert.specs.Known.{KnownRecord}
use Rattle.gv_checks.specs.Answered.{CountsOne}
use Rattle.gv_checks.specs.Limits.{Cause}
use Rattle.gv_checks.specs.Queries.{Query}
use Rattle.gv_checks.specs.declared.fault.JudgeFault.{JudgeFault}
use Rattle.gv_checks.specs.declared.fault.JudgeFault.TheVariants.{Spent, Limit, NoMemory}

-- a cause for every budget is no budget that was spent
pub counts_refused : (q : Query) (before now : Counts) (fault : JudgeFault) → ((budget : ℕ) (given : List KnownRecord) → Cause budget given q fault) → now ≡ after Lower before → CountsOne (Err fault) before now
counts_refused q before now (Spent name sets) causes e =
    let none : length sets ≡ 0 = (causes 0 []).2.count in
    let one : length sets ≡ 1 = (causes 1 []).2.count in
    absurd (omega (arith, none, one))
counts_refused q before now (Limit place number) causes e = e
counts_refused q before now NoMemory causes e = inr (inl e)
