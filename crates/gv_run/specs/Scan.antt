-- What a scan says of the files under options.
use Rattle.std.specs.Prelude.{◌≡◌, ◌⊎◌, ℕ, ◌≤◌, ◌^◌, List, [], ◌∷◌, ◌++◌, length, Option, Result, Ok, Err, IfSome}
use Rattle.std.specs.List.{AllByRecursion}
use Rattle.gv_base.specs.FileMap.{FileMap}
use Rattle.gv_cert.specs.Known.{KnownRecord}
use Rattle.gv_reading.specs.declared.faults.LoadFault.{LoadFault}
use Rattle.gv_reading.specs.declared.faults.LoadFault.TheVariants as loads
use Rattle.gv_load.specs.declared.loading.Repo.{Repo}
use Rattle.gv_load.specs.Loading.{loading}
use Rattle.gv_reading.specs.Look.{look_of}
use Rattle.gv_report.specs.declared.options.Options.{Options}
use Rattle.gv_checks.specs.Certs.{HasBacked}
use Rattle.gv_checks.specs.Limits.{IsPast, IsWithin}
use Rattle.gv_checks.specs.Queries.{Query, flags_of, gates_of, queries}
use Rattle.gv_checks.specs.RepoReports.{scan_text}

-- this is the repository, where the files are told
abbrev pub IsLoaded : Option FileMap → Repo → Type 0
IsLoaded told repo = IfSome told (λ files. loading (look_of files) ≡ Ok repo)

-- loading is refused so, where the files are told
abbrev pub IsUnloaded : Option FileMap → LoadFault → Type 0
IsUnloaded told fault = IfSome told (λ files. loading (look_of files) ≡ Err fault)

-- the status that says so: 0 for no text, 1 for some
abbrev pub said_by : List ℕ → ℕ
said_by [] = 0
said_by (b ∷ bs) = 1

abbrev pub unloaded_status : LoadFault → ℕ
unloaded_status (loads.Tree path) = 3
unloaded_status (loads.NotARepository path) = 6
unloaded_status (loads.Limit place number) = 7
unloaded_status loads.NoMemory = 5

-- a query has no more sets of flags than the budget, or a given record of it is backed: it can't be refused by the budget
abbrev pub IsCovered : (budget : ℕ) → (given : List KnownRecord) → Query → Type 0
IsCovered budget given q = (2 ^ length (flags_of q) ≤ budget) ⊎ HasBacked given (gates_of q)

-- Where no query can be refused: each is within the limits and covered.
pub record AllFit (budget : ℕ) (given : List KnownRecord) (asked : List Query) : Type 0 where
  pub within : AllByRecursion IsWithin asked
  pub covered : AllByRecursion (IsCovered budget given) asked

-- where a query is past a limit, and each before it is covered
pub record OneIsPast (budget : ℕ) (given : List KnownRecord) (asked : List Query) : Type 0 where
  pub before : List Query
  pub query : Query
  pub behind : List Query
  pub queries_are : asked ≡ before ++ query ∷ behind
  pub covered : AllByRecursion (IsCovered budget given) before
  pub number : ℕ
  pub past : IsPast query number

-- the same of all queries of a repository
abbrev pub Fits : Options → (given : List KnownRecord) → Repo → Type 0
Fits options given repo = AllFit options.budget given (queries options repo)

abbrev pub IsPastOne : Options → (given : List KnownRecord) → Repo → Type 0
IsPastOne options given repo = OneIsPast options.budget given (queries options repo)

-- the status where these queries are asked and this text is printed; or memory is wanted
abbrev pub SaysOf : (budget : ℕ) → (given : List KnownRecord) → (asked : List Query) → (text : List ℕ) → ℕ → Type 0
SaysOf budget given asked text status = (AllFit budget given asked → (status ≡ said_by text) ⊎ (status ≡ 5)) × (OneIsPast budget given asked → (status ≡ 7) ⊎ (status ≡ 5))

-- the status of a scan to which these records are given and in which nothing outside fails; or memory is wanted
abbrev pub Says : Options → (given : List KnownRecord) → Result Repo LoadFault → ℕ → Type 0
Says options given (Ok repo) status = SaysOf options.budget given (queries options repo) (scan_text options repo) status
Says options given (Err fault) status = (status ≡ unloaded_status fault) ⊎ (status ≡ 5)
