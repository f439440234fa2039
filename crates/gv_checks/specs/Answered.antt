-- The answer to one query, and what judging a repository answers.
use Rattle.std.specs.Prelude.{◌≡◌, ◌⊎◌, ℕ, ◌<◌, ◌≤◌, true, List, map, length, Option, None, Some, option_map, Result, Ok, Err, if◌then◌else◌}
use Rattle.std.specs.List.{AllByRecursion}
use Rattle.gv_base.specs.Counts.{Counts}
use Rattle.gv_base.specs.Steps.{after}
use Rattle.gv_base.specs.declared.steps.Kind.TheVariants.{Lower, Solve}
use Rattle.gv_cert.specs.Claim.{IsAnswerTo, answer_bytes}
use Rattle.gv_cert.specs.Backing.{NoneBacked}
use Rattle.gv_cert.specs.Known.{KnownRecord}
use Rattle.gv_cert.specs.declared.claim.Claim.{Claim}
use Rattle.gv_logic.specs.Circuits.{IsCircuit}
use Rattle.gv_lower.specs.declared.query.LowerFault.{LowerFault}
use Rattle.gv_lower.specs.declared.query.LowerFault.TheVariants as lowering
use Rattle.gv_lower.specs.declared.query.LowerFault.TheVariants.{Flags, Weight}
use Rattle.gv_lower.specs.Weigh.{capped}
use Rattle.gv_query.specs.Asking.{IsAnswered}
use Rattle.gv_report.specs.declared.options.Options.{Options}
use Rattle.gv_report.specs.declared.report.Report.{Report}
use Rattle.gv_checks.specs.Certs.{AreCerts, Cert, cert_record, counts_after}
use Rattle.gv_checks.specs.Limits.{Cause, IsWithin, Refuses}
use Rattle.gv_checks.specs.Queries.{Query, flags_of, gates_bytes, gates_of, least_of, queries, weight_of}
use Rattle.gv_checks.specs.RepoReports.{query_report, scan_reports, witness_of}
use Rattle.gv_checks.specs.declared.fault.JudgeFault.{JudgeFault}
use Rattle.gv_checks.specs.declared.fault.JudgeFault.TheVariants.{Spent, Limit, NoMemory}
use Rattle.gv_checks.specs.declared.whole.Judged.{Judged}
use Rattle.gv_checks.specs.declared.one.Found1.{Found1}
use Rattle.gv_load.specs.declared.loading.Repo.{Repo}

-- the bytes of the gates; an answer that is so, backed, and that of the first backed record where there is one; the text of
-- the least assignment that is asked for; and the report
pub record IsFound (budget : ℕ) (given : List KnownRecord) (q : Query) (f : Found1) : Type 0 where
  pub within : IsWithin q
  pub query_is : f.query ≡ gates_bytes q
  pub claim : Claim
  pub formed : IsAnswerTo (gates_of q) claim
  pub answer_is : f.answer ≡ answer_bytes (gates_of q) claim
  pub answered : IsAnswered (gates_of q) budget given claim f.reused
  pub witness_is : f.witness ≡ option_map (witness_of q) (least_of q)
  pub report_is : f.report ≡ query_report q

abbrev pub AnswersOne : (budget : ℕ) → (given : List KnownRecord) → Query → Result Found1 JudgeFault → Type 0
AnswersOne budget given q (Ok f) = IsFound budget given q f
AnswersOne budget given q (Err fault) = Cause budget given q fault

-- it is lowered once, and solved once where the answer isn't that of a record; with no memory something may be left out
abbrev pub CountsOne : Result Found1 JudgeFault → (before now : Counts) → Type 0
CountsOne (Ok f) before now = now ≡ (if f.reused then after Lower before else after Solve (after Lower before))
CountsOne (Err (Spent name sets)) before now = now ≡ after Solve (after Lower before)
CountsOne (Err (Limit place number)) before now = now ≡ after Lower before
CountsOne (Err NoMemory) before now = (now ≡ before) ⊎ ((now ≡ after Lower before) ⊎ (now ≡ after Solve (after Lower before)))

-- what the records know of a query that is within the limits: the answer of the first that is backed, whatever the budget,
-- or that none is backed
abbrev pub Knows : (given : List KnownRecord) → Query → Result (Option Found1) LowerFault → Type 0
Knows given q (Ok None) = IsWithin q × NoneBacked (gates_of q) given
Knows given q (Ok (Some f)) = ((budget : ℕ) → IsFound budget given q f) × (f.reused ≡ true)
Knows given q (Err (Flags count)) = (4096 < length (flags_of q)) × (count ≡ length (flags_of q))
Knows given q (Err (Weight count)) = (length (flags_of q) ≤ 4096) × (2000000 < weight_of q) × (count ≡ capped (weight_of q))
Knows given q (Err lowering.NoMemory) = Unit {0}

-- it is lowered once; with no memory maybe not
abbrev pub CountsKnown : Result (Option Found1) LowerFault → (before now : Counts) → Type 0
CountsKnown (Ok known) before now = now ≡ after Lower before
CountsKnown (Err lowering.NoMemory) before now = (now ≡ before) ⊎ (now ≡ after Lower before)
CountsKnown (Err fault) before now = now ≡ after Lower before

-- these reports; one record for each distinct one of these queries; each of them within the limits, and its gates a circuit; and what was
-- counted: at most one lowering a query
pub record AreJudged (budget : ℕ) (given : List KnownRecord) (asked : List Query) (told : List Report) (before now : Counts) (j : Judged) : Type 0 where
  pub reports_are : j.reports ≡ told
  pub certs : List Cert
  pub are : AreCerts budget given (map gates_of asked) certs
  pub records_are : j.certs ≡ map cert_record certs
  pub queries_are : j.queries ≡ length asked
  pub within : AllByRecursion IsWithin asked
  pub formed : AllByRecursion (λ q. IsCircuit (gates_of q)) asked
  pub lowered : ℕ
  pub few : lowered ≤ length asked
  pub counts_are : now ≡ counts_after before lowered certs

-- those of a scan
abbrev pub IsJudged : Options → (given : List KnownRecord) → Repo → (before now : Counts) → Judged → Type 0
IsJudged options given repo before now j = AreJudged options.budget given (queries options repo) (scan_reports options repo) before now j

abbrev pub JudgesAll : Options → (given : List KnownRecord) → Repo → (before now : Counts) → Result Judged JudgeFault → Type 0
JudgesAll options given repo before now (Ok j) = IsJudged options given repo before now j
JudgesAll options given repo before now (Err fault) = Refuses options.budget given (queries options repo) fault
