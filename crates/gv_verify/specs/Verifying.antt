-- What a report held against certificates is found to be.
use Rattle.std.specs.Prelude.{◌≡◌, ℕ, List, length, Result, Ok, Err}
use Rattle.std.specs.List.{AllByRecursion}
use Rattle.gv_cert.specs.Known.{KnownRecord}
use Rattle.gv_report.specs.declared.options.Options.{Options}
use Rattle.gv_checks.specs.Certs.{HasBacked}
use Rattle.gv_checks.specs.Limits.{IsWithin}
use Rattle.gv_checks.specs.Queries.{gates_of, queries}
use Rattle.gv_checks.specs.Recalled.{IsNotRecalled}
use Rattle.gv_checks.specs.RepoReports.{scan_text}
use Rattle.gv_checks.specs.declared.recalled.RecallFault.{RecallFault}
use Rattle.gv_checks.specs.declared.recalled.RecallFault.TheVariants as recalling
use Rattle.gv_load.specs.declared.loading.Repo.{Repo}
use Rattle.gv_verify.specs.Differing.{DifferAt}
use Rattle.gv_verify.specs.declared.verifying.VerifyFault.{VerifyFault}
use Rattle.gv_verify.specs.declared.verifying.VerifyFault.TheVariants.{NotBacked, NoSuchText, Limit, NoMemory}

-- each query is within the limits and has a backed record, and the report is the text of a scan
pub record IsAccepted (options : Options) (given : List KnownRecord) (repo : Repo) (report : List ℕ) (count : ℕ) : Type 0 where
  pub queries_are : count ≡ length (queries options repo)
  pub within : AllByRecursion IsWithin (queries options repo)
  pub backed : AllByRecursion (λ q. HasBacked given (gates_of q)) (queries options repo)
  pub text_is : report ≡ scan_text options repo

-- each query is and has, but the report is another text, which first differs here
pub record IsOtherText (options : Options) (given : List KnownRecord) (repo : Repo) (report : List ℕ) (offset : ℕ) : Type 0 where
  pub within : AllByRecursion IsWithin (queries options repo)
  pub backed : AllByRecursion (λ q. HasBacked given (gates_of q)) (queries options repo)
  pub differs : DifferAt (scan_text options repo) report offset

-- the first query that is past a limit or has no backed record comes before the text
abbrev pub Verifies : Options → (given : List KnownRecord) → Repo → (report : List ℕ) → Result ℕ VerifyFault → Type 0
Verifies options given repo report (Ok count) = IsAccepted options given repo report count
Verifies options given repo report (Err (NotBacked query)) = IsNotRecalled given (queries options repo) (recalling.NotBacked query)
Verifies options given repo report (Err (NoSuchText offset)) = IsOtherText options given repo report offset
Verifies options given repo report (Err (Limit place number)) = IsNotRecalled given (queries options repo) (recalling.Limit place number)
Verifies options given repo report (Err NoMemory) = Unit {0}

-- accepted, or memory was wanting
abbrev pub MayAccept : (count : ℕ) → Result ℕ VerifyFault → Type 0
MayAccept count (Ok n) = n ≡ count
MayAccept count (Err NoMemory) = Unit {0}
MayAccept count (Err fault) = ⊥

-- For contracts of private functions: the same fault.
abbrev pub Hands : RecallFault → VerifyFault → Type 0
Hands (recalling.NotBacked query) fault = fault ≡ NotBacked query
Hands (recalling.Limit place number) fault = fault ≡ Limit place number
Hands recalling.NoMemory fault = fault ≡ NoMemory
