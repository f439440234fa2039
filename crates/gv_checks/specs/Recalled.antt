-- Judging by records alone: each query has a backed record among those that are given, or the first that has none is told.
use Rattle.std.specs.Prelude.{◌≡◌, ℕ, ◌+◌, true, List, ◌∷◌, ◌++◌, length, map, Result, Ok, Err}
use Rattle.std.specs.List.{AllByRecursion}
use Rattle.gv_cert.specs.Backing.{NoneBacked}
use Rattle.gv_cert.specs.Known.{KnownRecord}
use Rattle.gv_logic.specs.Circuits.{IsCircuit}
use Rattle.gv_report.specs.declared.options.Options.{Options}
use Rattle.gv_checks.specs.Certs.{AreCerts, Cert, HasBacked, cert_record}
use Rattle.gv_checks.specs.Limits.{IsPast, IsWithin, place_of}
use Rattle.gv_checks.specs.Queries.{Query, gates_of, queries}
use Rattle.gv_checks.specs.RepoReports.{scan_reports}
use Rattle.gv_checks.specs.declared.recalled.RecallFault.{RecallFault}
use Rattle.gv_checks.specs.declared.recalled.RecallFault.TheVariants.{NotBacked, Limit, NoMemory}
use Rattle.gv_checks.specs.declared.recalled.Recalled.{Recalled}
use Rattle.gv_load.specs.declared.loading.Repo.{Repo}

-- the reports of a scan; one record for each distinct query, in order of first use, each of them the first given one that is backed; each
-- query is within the limits, its gates are a circuit, and a record of them is backed
pub record IsRecalled (options : Options) (given : List KnownRecord) (repo : Repo) (r : Recalled) : Type 0 where
  pub reports_are : r.reports ≡ scan_reports options repo
  pub certs : List Cert
  pub are : AreCerts 0 given (map gates_of (queries options repo)) certs
  pub reused : AllByRecursion (λ c. c.reused ≡ true) certs
  pub records_are : r.certs ≡ map cert_record certs
  pub queries_are : r.queries ≡ length (queries options repo)
  pub within : AllByRecursion IsWithin (queries options repo)
  pub formed : AllByRecursion (λ q. IsCircuit (gates_of q)) (queries options repo)
  pub backed : AllByRecursion (λ q. HasBacked given (gates_of q)) (queries options repo)

-- why this query, which has this number from 1, isn't recalled: no record of it is backed; or it is past a limit
abbrev pub RecallCause : (given : List KnownRecord) → (number : ℕ) → Query → RecallFault → Type 0
RecallCause given number q (NotBacked query) = (query ≡ number) × IsWithin q × NoneBacked (gates_of q) given
RecallCause given number q (Limit place told) = (place ≡ place_of q) × IsPast q told
RecallCause given number q NoMemory = Unit {0}

-- it is one of these, and those before it are within the limits and have backed records
pub record IsNotRecalled (given : List KnownRecord) (queries : List Query) (fault : RecallFault) : Type 0 where
  pub before : List Query
  pub query : Query
  pub behind : List Query
  pub queries_are : queries ≡ before ++ query ∷ behind
  pub within : AllByRecursion IsWithin before
  pub backed : AllByRecursion (λ q. HasBacked given (gates_of q)) before
  pub cause : RecallCause given (length before + 1) query fault

-- the first that isn't recalled; want of memory names none
abbrev pub NotRecalls : (given : List KnownRecord) → List Query → RecallFault → Type 0
NotRecalls given queries NoMemory = Unit {0}
NotRecalls given queries fault = IsNotRecalled given queries fault

abbrev pub Recalls : Options → (given : List KnownRecord) → Repo → Result Recalled RecallFault → Type 0
Recalls options given repo (Ok r) = IsRecalled options given repo r
Recalls options given repo (Err fault) = NotRecalls given (queries options repo) fault
