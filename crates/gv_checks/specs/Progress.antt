-- How far judging has come. With a budget of 0 nothing is solved.
use Rattle.std.specs.Prelude.{◌≡◌, ℕ, true, ◌<◌, ◌≤◌, List, [], ◌∷◌, ◌++◌, length, map, filter_map, Some, slice_get, Result, Ok, Err}
use Rattle.std.specs.List.{AllByRecursion}
use Rattle.gv_base.specs.Counts.{Counts}
use Rattle.gv_cert.specs.Known.{HasQuery, KnownRecord}
use Rattle.gv_cert.specs.declared.claim.Claim.{Claim}
use Rattle.gv_logic.specs.Bytes.{circuit_bytes}
use Rattle.gv_logic.specs.Circuits.{Circuit, IsCircuit}
use Rattle.gv_query.specs.Answering.{SpentBy}
use Rattle.gv_query.specs.declared.answering.AskFault.{AskFault}
use Rattle.gv_query.specs.Truth.{IsSo}
use Rattle.gv_report.specs.declared.report.Report.{Report}
use Rattle.gv_checks.specs.Asked.{found_bits}
use Rattle.gv_checks.specs.Certs.{AreCerts, Cert, HasBacked, cert_record, counts_after}
use Rattle.gv_checks.specs.Limits.{Cause, IsWithin}
use Rattle.gv_checks.specs.Queries.{Query, gates_of}
use Rattle.gv_checks.specs.RepoReports.{query_report}
use Rattle.gv_checks.specs.declared.fault.JudgeFault.{JudgeFault}
use Rattle.gv_checks.specs.declared.fault.JudgeFault.TheVariants.{NoMemory}
use Rattle.gv_checks.specs.declared.used.Used.{Used}
use Rattle.gv_checks.specs.declared.judging.Progress.{Progress}

-- The answers to gates that were asked about, one for each distinct ones, and what was counted.
pub record AreUsed (budget : ℕ) (given : List KnownRecord) (start : Counts) (gates : List Circuit) (used : Used) (lowered : ℕ) (now : Counts) : Type 0 where
  pub certs : List Cert
  pub are : AreCerts budget given gates certs
  pub formed : AllByRecursion (λ c. IsCircuit c.gates) certs
  pub reused : budget ≡ 0 → AllByRecursion (λ c. c.reused ≡ true) certs
  pub records_are : used.certs ≡ map cert_record certs
  pub found_are : used.found.items ≡ map (λ c. found_bits c.claim) certs
  pub counts_are : now ≡ counts_after start lowered certs

-- at this place is what is found for the gates
pub record IsFoundAt (g : Circuit) (used : Used) (n : ℕ) : Type 0 where
  pub claim : Claim
  pub so : IsSo g claim
  pub there : n < length used.found.items
  pub is : slice_get used.found.items n ≡ Some (found_bits claim)

-- of some gates
pub record AreSome (budget : ℕ) (given : List KnownRecord) (used : Used) (now : Counts) : Type 0 where
  pub start : Counts
  pub gates : List Circuit
  pub lowered : ℕ
  pub are : AreUsed budget given start gates used lowered now

-- what stood at a number still does
abbrev pub Grows : (old new : List KnownRecord) → Type 0
Grows old new = (query : List ℕ) (n : ℕ) → HasQuery query old n → HasQuery query new n

-- one more
abbrev pub Uses : (budget : ℕ) → (given : List KnownRecord) → Circuit → (old new : Used) → (before now : Counts) → Result ℕ AskFault → Type 0
Uses budget given g old new before now (Ok n) =
    ((start : Counts) (gates : List Circuit) (lowered : ℕ) → AreUsed budget given start gates old lowered before → AreUsed budget given start (gates ++ g ∷ []) new lowered now)
    × IsFoundAt g new n
    × (budget ≡ 0 → HasBacked given g)
    × Grows old.certs new.certs
    × HasQuery (circuit_bytes g) new.certs n
Uses budget given g old new before now (Err fault) = SpentBy g budget given fault

-- what was counted and reported before queries are judged
pub record Outset : Type 0 where
  pub counts : Counts
  pub reports : List Report

-- Queries that are judged.
pub record IsAt (budget : ℕ) (given : List KnownRecord) (start : Outset) (done : List Query) (p : Progress) (now : Counts) : Type 0 where
  -- so many were lowered; the others are those of another context
  pub lowered : ℕ
  pub few : lowered ≤ length done
  pub used : AreUsed budget given start.counts (map gates_of done) p.used lowered now
  pub reports_are : p.reports ≡ start.reports ++ filter_map query_report done
  pub queries_are : p.queries ≡ length done
  pub within : AllByRecursion IsWithin done
  pub formed : AllByRecursion (λ q. IsCircuit (gates_of q)) done
  pub backed : budget ≡ 0 → AllByRecursion (λ q. HasBacked given (gates_of q)) done

-- some queries are judged
pub record IsSomewhere (budget : ℕ) (given : List KnownRecord) (p : Progress) (now : Counts) : Type 0 where
  pub start : Outset
  pub done : List Query
  pub at : IsAt budget given start done p now

-- the first that is refused, behind so many that have their certificates
pub record IsStopped (budget : ℕ) (given : List KnownRecord) (queries : List Query) (count : ℕ) (fault : JudgeFault) : Type 0 where
  pub before : List Query
  pub query : Query
  pub behind : List Query
  pub queries_are : queries ≡ before ++ query ∷ behind
  pub within : AllByRecursion IsWithin before
  pub certs : List Cert
  pub are : AreCerts budget given (map gates_of before) certs
  pub backed : budget ≡ 0 → AllByRecursion (λ q. HasBacked given (gates_of q)) before
  pub count_is : count ≡ length before
  pub cause : Cause budget given query fault

abbrev pub Stops : (budget : ℕ) → (given : List KnownRecord) → List Query → (count : ℕ) → JudgeFault → Type 0
Stops budget given queries count NoMemory = Unit {0}
Stops budget given queries count fault = IsStopped budget given queries count fault

-- some more of them, or the first that is refused
abbrev pub Judges : (budget : ℕ) → (given : List KnownRecord) → (these : List Query) → (old new : Progress) → (before now : Counts) → Result (Unit {0}) JudgeFault → Type 0
Judges budget given these old new before now (Ok done_) =
    (start : Outset) (done : List Query) → IsAt budget given start done old before → IsAt budget given start (done ++ these) new now
Judges budget given these old new before now (Err fault) =
    (start : Outset) (done rest : List Query) → IsAt budget given start done old before → Stops budget given (done ++ (these ++ rest)) new.queries fault
