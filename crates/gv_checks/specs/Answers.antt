-- What judging some queries answers: each is within the limits and has the answer of a backed record.
use Rattle.std.specs.Prelude.{◌≡◌, ℕ, true, ◌≤◌, List, length, map, filter_map}
use Rattle.std.specs.List.{AllByRecursion}
use Rattle.gv_base.specs.Counts.{Counts}
use Rattle.gv_cert.specs.Known.{KnownRecord}
use Rattle.gv_logic.specs.Circuits.{IsCircuit}
use Rattle.gv_checks.specs.Certs.{AreCerts, Cert, HasBacked, cert_record, counts_after}
use Rattle.gv_checks.specs.Limits.{IsWithin}
use Rattle.gv_checks.specs.Progress.{Stops}
use Rattle.gv_checks.specs.Queries.{Query, gates_of}
use Rattle.gv_checks.specs.RepoReports.{query_report}
use Rattle.gv_checks.specs.declared.walking.Answers.{Answers}
use Rattle.gv_checks.specs.declared.walking.Stopped.{Stopped}

-- the reports of the queries; one record for each distinct one; each query within the limits, and its gates a circuit; with no
-- budget each has a backed record, and each answer is that of one; and what was counted: at most one lowering a query
pub record AreAnswers (budget : ℕ) (given : List KnownRecord) (queries : List Query) (before now : Counts) (a : Answers) : Type 0 where
  pub reports_are : a.reports ≡ filter_map query_report queries
  pub certs : List Cert
  pub are : AreCerts budget given (map gates_of queries) certs
  pub records_are : a.certs ≡ map cert_record certs
  pub queries_are : a.queries ≡ length queries
  pub within : AllByRecursion IsWithin queries
  pub formed : AllByRecursion (λ q. IsCircuit (gates_of q)) queries
  pub backed : budget ≡ 0 → AllByRecursion (λ q. HasBacked given (gates_of q)) queries
  pub reused : budget ≡ 0 → AllByRecursion (λ c. c.reused ≡ true) certs
  pub lowered : ℕ
  pub few : lowered ≤ length queries
  pub counts_are : now ≡ counts_after before lowered certs

-- the first of them that is refused, behind so many
abbrev pub StopsAt : (budget : ℕ) → (given : List KnownRecord) → (queries : List Query) → Stopped → Type 0
StopsAt budget given queries s = Stops budget given queries s.behind s.fault
