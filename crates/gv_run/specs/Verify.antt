-- A report held against certificates: what it is found to be, what is said of it, and what a run of `verify` leaves.
use Rattle.std.specs.Prelude.{◌≡◌, ◌⊎◌, ℕ, Bool, true, false, List, ◌++◌, Option, Some, IfSome, Result, Ok, Err, codes, decimal}
use Rattle.std.specs.List.{AllByRecursion}
use Rattle.gv_base.specs.Causes.{Rose}
use Rattle.gv_base.specs.FileMap.{FileMap}
use Rattle.gv_base.specs.Outside.{gains}
use Rattle.gv_cert.specs.File.{ReadsFile}
use Rattle.gv_cert.specs.Known.{KnownRecord}
use Rattle.gv_reading.specs.declared.faults.LoadFault.{LoadFault}
use Rattle.gv_reading.specs.declared.faults.LoadFault.TheVariants as loads
use Rattle.gv_load.specs.declared.loading.Repo.{Repo}
use Rattle.gv_report.specs.declared.options.Options.{Options}
use Rattle.gv_checks.specs.Limits.{IsWithin}
use Rattle.gv_checks.specs.Queries.{queries}
use Rattle.gv_checks.specs.Recalled.{IsNotRecalled}
use Rattle.gv_checks.specs.RepoReports.{scan_text}
use Rattle.gv_checks.specs.declared.recalled.RecallFault.TheVariants as recalling
use Rattle.gv_verify.specs.Verifying.{IsAccepted, IsOtherText}
use Rattle.gv_words.specs.declared.command.Asked.{Asked}
use Rattle.gv_words.specs.declared.command.Verification.{Verification}
use Rattle.gv_ending.specs.declared.refusal.Refusal.{Refusal}
use Rattle.gv_ending.specs.declared.refusal.Refusal.TheVariants.{Limit}
use Rattle.gv_run.specs.declared.verdict.Verdict.{Verdict}
use Rattle.gv_run.specs.declared.verdict.Verdict.TheVariants.{Accepted, NotBacked, OtherText}
use Rattle.gv_ending.specs.Causes.{Causes, no_refusal}
use Rattle.gv_ending.specs.Endings.{GainsFront, well_status}
use Rattle.gv_ending.specs.Fetching.{AreRecordsAt, IsFileAt, file_at}
use Rattle.gv_run.specs.Scan.{IsLoaded, IsUnloaded, unloaded_status}
use Rattle.gv_run.specs.Scanning.{Reports, certs_file}
use Rattle.gv_ending.specs.World.{CalmStore, SameOut, SameSteps, SameTree, World}

-- ---- what is said

abbrev pub verdict_text : Verdict → List ℕ
verdict_text (Accepted queries) = codes "accepted " ++ (decimal queries ++ codes "\n")
verdict_text (NotBacked query) = codes "refused: query " ++ (decimal query ++ codes " has no backing\n")
verdict_text (OtherText offset) = codes "refused: text differs at byte " ++ (decimal offset ++ codes "\n")

abbrev pub is_refused : Verdict → Bool
is_refused (Accepted queries) = false
is_refused (NotBacked query) = true
is_refused (OtherText offset) = true

-- ---- what is found

-- Accepted: each query is within the limits and has a backed record, and the report is the text of a scan. Else the first
-- query without a backed record, where none before it is past a limit; or, where all have one, the first byte that differs.
abbrev pub IsVerdict : Options → (given : List KnownRecord) → Repo → (report : List ℕ) → Verdict → Type 0
IsVerdict options given repo report (Accepted count) = IsAccepted options given repo report count
IsVerdict options given repo report (NotBacked query) = IsNotRecalled given (queries options repo) (recalling.NotBacked query)
IsVerdict options given repo report (OtherText offset) = IsOtherText options given repo report offset

-- the records of the certificate file and the report, both as the store has them
pub record AreFetched (v : Verification) (kept : Option FileMap) (given : List KnownRecord) (report : List ℕ) : Type 0 where
  pub given_are : AreRecordsAt kept v.certs given
  pub report_is : IsFileAt kept v.report report

-- a query of the repository is the first that isn't recalled, and it is past this limit
pub record IsPastAt (v : Verification) (told kept : Option FileMap) (place : List ℕ) (number : ℕ) : Type 0 where
  pub repo : Repo
  pub given : List KnownRecord
  pub report : List ℕ
  pub loaded : IsLoaded told repo
  pub fetched : AreFetched v kept given report
  pub refused : IsNotRecalled given (queries v.options repo) (recalling.Limit place number)

-- that is told
abbrev pub TellsPast : Verification → (told kept : Option FileMap) → Refusal → Type 0
TellsPast v told kept (Limit place number) = IsPastAt v told kept place number
TellsPast v told kept other = ⊥

-- ---- what a run leaves

-- both files and the repository were read, neither tree nor store failed, and this was found
pub record HasVerdict (v : Verification) (old new : World) (verdict : Verdict) : Type 0 where
  pub tree : SameTree old new
  pub store : CalmStore old new
  pub repo : Repo
  pub given : List KnownRecord
  pub report : List ℕ
  pub loaded : IsLoaded old.files repo
  pub fetched : AreFetched v old.kept given report
  pub is : IsVerdict v.options given repo report verdict

-- the output gained exactly the verdict's line
pub record Verifies (v : Verification) (old new : World) (status : ℕ) : Type 0 where
  pub verdict : Verdict
  pub has : HasVerdict v old new verdict
  pub out : new.out ≡ gains old.out (verdict_text verdict)
  pub calm : new.out_faults ≡ old.out_faults
  pub status_is : status ≡ well_status (is_refused verdict)

-- it gained some first bytes of the line
pub record CutsVerdict (v : Verification) (old new : World) : Type 0 where
  pub verdict : Verdict
  pub has : HasVerdict v old new verdict
  pub front : GainsFront old.out new.out (verdict_text verdict)

-- why a verification has none, and what it leaves then: a file wasn't fetched; or both were, and the repository wasn't read, or a
-- query is past a limit; or the line wasn't written
abbrev pub verify_causes : Verification → World → World → Causes
verify_causes v old new = record {
  tree = SameOut old new × (CalmStore old new × (Rose old.tree_faults new.tree_faults × SameSteps old new));
  store = λ path. SameOut old new × (((path ≡ v.certs) ⊎ (path ≡ v.report)) × (Rose old.store_faults new.store_faults × (SameTree old new × SameSteps old new)));
  input = no_refusal;
  output = CutsVerdict v old new × Rose old.out_faults new.out_faults;
  files = λ fault. SameOut old new × (CalmStore old new × (SameTree old new × (SameSteps old new × IsUnloaded old.files fault)));
  queries = λ refusal. SameOut old new × (CalmStore old new × (SameTree old new × TellsPast v old.files old.kept refusal));
  memory = SameOut old new ⊎ CutsVerdict v old new;
}

-- ---- where nothing outside fails

-- a query is past a limit, and each before it is within the limits and has a backed record
pub record IsPastOneIn (options : Options) (given : List KnownRecord) (repo : Repo) : Type 0 where
  pub place : List ℕ
  pub number : ℕ
  pub is : IsNotRecalled given (queries options repo) (recalling.Limit place number)

-- the status of a verification in which nothing outside fails; or memory is wanted
abbrev pub VerifySays : Verification → (kept : Option FileMap) → Result Repo LoadFault → ℕ → Type 0
VerifySays v kept (Ok repo) status =
    (AllByRecursion IsWithin (queries v.options repo) → (status ≡ 0) ⊎ ((status ≡ 1) ⊎ (status ≡ 5)))
    × IfSome kept (λ files. (given : List KnownRecord) → ReadsFile (file_at files v.certs) given → IsPastOneIn v.options given repo → (status ≡ 7) ⊎ (status ≡ 5))
VerifySays v kept (Err fault) status = (status ≡ unloaded_status fault) ⊎ (status ≡ 5)

-- A scan that ended with 0 or 1, whatever its budget and whatever records it found, left its certificates and its text where
-- the verification looks for them; it was of the files that the tree has now, with the same keywords, profiles and form.
pub record IsLeftByScan (v : Verification) (told kept : Option FileMap) : Type 0 where
  pub asked : Asked
  pub old : World
  pub new : World
  pub status : ℕ
  pub scan : Reports asked old new status
  pub files : FileMap
  pub scanned : old.files ≡ Some files
  pub told_are : told ≡ Some files
  pub keywords : v.options.keywords ≡ asked.options.keywords
  pub profiles : v.options.profiles ≡ asked.options.profiles
  pub json : v.options.json ≡ asked.options.json
  pub held : FileMap
  pub held_are : kept ≡ Some held
  pub certs : file_at held v.certs ≡ certs_file scan.answered.certs
  pub report : file_at held v.report ≡ scan_text asked.options scan.answered.of
