-- What merging records answers: the report of the whole, by records alone, or the first query that lacks one.
use Rattle.std.specs.Prelude.{◌≡◌, ℕ, ◌≤◌, true, List, map, Result, Ok, Err}
use Rattle.std.specs.List.{AllByRecursion}
use Rattle.gv_cert.specs.Known.{KnownRecord}
use Rattle.gv_load.specs.declared.loading.Repo.{Repo}
use Rattle.gv_logic.specs.Circuits.{IsCircuit}
use Rattle.gv_report.specs.declared.options.Options.{Options}
use Rattle.gv_checks.specs.Certs.{AreCerts, Cert, cert_record}
use Rattle.gv_checks.specs.Limits.{IsWithin}
use Rattle.gv_checks.specs.Queries.{gates_of, queries}
use Rattle.gv_checks.specs.Recalled.{IsNotRecalled}
use Rattle.gv_checks.specs.RepoReports.{scan_reports}
use Rattle.gv_checks.specs.declared.recalled.RecallFault.{RecallFault}
use Rattle.gv_checks.specs.declared.recalled.RecallFault.TheVariants as recalling
use Rattle.gv_merge.specs.Parts.{part_of}
use Rattle.gv_merge.specs.declared.merging.MergeFault.{MergeFault}
use Rattle.gv_merge.specs.declared.merging.MergeFault.TheVariants.{NotBacked, Limit, NoMemory}
use Rattle.gv_merge.specs.declared.merging.Merged.{Merged}

-- the reports of a scan, and one record for each distinct query, in order of first use, each of them the first given one that is backed; each
-- query is within the limits, and its gates are a circuit
pub record IsMerged (options : Options) (given : List KnownRecord) (repo : Repo) (m : Merged) : Type 0 where
  pub reports_are : m.reports ≡ scan_reports options repo
  pub certs : List Cert
  pub are : AreCerts 0 given (map gates_of (queries options repo)) certs
  pub reused : AllByRecursion (λ c. c.reused ≡ true) certs
  pub records_are : m.certs ≡ map cert_record certs
  pub within : AllByRecursion IsWithin (queries options repo)
  pub formed : AllByRecursion (λ q. IsCircuit (gates_of q)) (queries options repo)

-- the first query that is past a limit or has no backed record; with its part
abbrev pub Merges : (parts : ℕ) → Options → (given : List KnownRecord) → Repo → Result Merged MergeFault → Type 0
Merges parts options given repo (Ok m) = IsMerged options given repo m
Merges parts options given repo (Err (NotBacked query part)) = IsNotRecalled given (queries options repo) (recalling.NotBacked query) × (part ≡ part_of parts query)
Merges parts options given repo (Err (Limit place number)) = IsNotRecalled given (queries options repo) (recalling.Limit place number)
Merges parts options given repo (Err NoMemory) = Unit {0}

-- For contracts of private functions: the number of a query is from 1;
abbrev pub IsNumbered : RecallFault → Type 0
IsNumbered (recalling.NotBacked query) = 1 ≤ query
IsNumbered other = Unit {0}

-- and the same fault, with the query's part.
abbrev pub Hands : (parts : ℕ) → RecallFault → MergeFault → Type 0
Hands parts (recalling.NotBacked query) fault = fault ≡ NotBacked query (part_of parts query)
Hands parts (recalling.Limit place number) fault = fault ≡ Limit place number
Hands parts recalling.NoMemory fault = fault ≡ NoMemory
