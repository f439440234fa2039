-- The text of a lint, and what a run of `lint` leaves.
use Rattle.std.specs.Prelude.{◌≡◌, ◌⊎◌, ℕ, List, ◌++◌, Option, IfSome, Result, Ok, Err, filter}
use Rattle.gv_base.specs.Causes.{Rose}
use Rattle.gv_base.specs.FileMap.{FileMap}
use Rattle.gv_base.specs.Outside.{gains}
use Rattle.gv_reading.specs.declared.faults.LoadFault.{LoadFault}
use Rattle.gv_reading.specs.declared.faults.LoadFault.TheVariants as loads
use Rattle.gv_load.specs.declared.loading.Repo.{Repo}
use Rattle.gv_load.specs.Loading.{loading}
use Rattle.gv_reading.specs.Look.{look_of}
use Rattle.gv_report.specs.declared.options.Options.{Options}
use Rattle.gv_report.specs.declared.report.Report.{Report}
use Rattle.gv_report.specs.Distinct.{ordered}
use Rattle.gv_report.specs.Emitted.{reports_text}
use Rattle.gv_report.specs.Selecting.{selected}
use Rattle.gv_usedefaults.specs.declared.walk.Walk.{Walk}
use Rattle.gv_usedefaults.specs.Reports.{use_reports}
use Rattle.gv_usedefaults.specs.Walk.{walking}
use Rattle.gv_profcheck.specs.Redundant.{redundant}
use Rattle.gv_profcheck.specs.Unknown.{unknown_reports}
use Rattle.gv_words.specs.declared.command.Linting.{Linting}
use Rattle.gv_ending.specs.Causes.{Causes, no_path, no_refusal}
use Rattle.gv_ending.specs.Endings.{GainsFront}
use Rattle.gv_run.specs.Scan.{IsLoaded, IsUnloaded, said_by, unloaded_status}
use Rattle.gv_ending.specs.World.{SameOut, SameTree, World}

-- all reports of a lint: REQUIRED_USE that defaults don't meet, needless versions, and lines that name no package
abbrev pub lint_reports : Repo → Walk → List Report
lint_reports repo walk = use_reports repo walk ++ (redundant repo.pkgs ++ unknown_reports repo.pkgs walk.files)

-- those that the options select, in order, equal ones once
abbrev pub lint_text : Options → Repo → Walk → List ℕ
lint_text options repo walk = reports_text options.json (ordered (filter (selected options) (lint_reports repo walk)))

-- this is the walk over the repository's profiles, where the files are told
abbrev pub IsWalked : Option FileMap → Repo → Walk → Type 0
IsWalked told repo walk = IfSome told (λ files. walking (look_of files) repo.profiles ≡ Ok walk)

-- the repository is loaded, and the walk is refused so, where the files are told
pub record IsUnwalked (told : Option FileMap) (fault : LoadFault) : Type 0 where
  pub repo : Repo
  pub loaded : IsLoaded told repo
  pub refused : IfSome told (λ files. walking (look_of files) repo.profiles ≡ Err fault)

-- loading is refused so; or it isn't, and the walk is, which only a limit refuses
abbrev pub IsUnlinted : Option FileMap → LoadFault → Type 0
IsUnlinted told (loads.Limit place number) = IsUnloaded told (loads.Limit place number) ⊎ IsUnwalked told (loads.Limit place number)
IsUnlinted told other = IsUnloaded told other

-- ---- what a run leaves

-- the repository and its walk were read, and the tree didn't fail
pub record IsRead (old new : World) : Type 0 where
  pub tree : SameTree old new
  pub repo : Repo
  pub walk : Walk
  pub loaded : IsLoaded old.files repo
  pub walked : IsWalked old.files repo walk

-- the output gained exactly the text
pub record Lints (l : Linting) (old new : World) (status : ℕ) : Type 0 where
  pub is_read : IsRead old new
  pub out : new.out ≡ gains old.out (lint_text l.options is_read.repo is_read.walk)
  pub calm : new.out_faults ≡ old.out_faults
  pub status_is : status ≡ said_by (lint_text l.options is_read.repo is_read.walk)

-- it gained some first bytes of the text
pub record CutsLint (l : Linting) (old new : World) : Type 0 where
  pub is_read : IsRead old new
  pub front : GainsFront old.out new.out (lint_text l.options is_read.repo is_read.walk)

-- why a lint has none, and what it leaves then: the repository wasn't read, or behind it its walk; or the text wasn't written
abbrev pub lint_causes : Linting → World → World → Causes
lint_causes l old new = record {
  tree = SameOut old new × Rose old.tree_faults new.tree_faults;
  store = no_path;
  input = no_refusal;
  output = CutsLint l old new × Rose old.out_faults new.out_faults;
  files = λ fault. SameOut old new × (SameTree old new × IsUnlinted old.files fault);
  queries = no_refusal;
  memory = SameOut old new ⊎ CutsLint l old new;
}

-- ---- where nothing outside fails

-- the status of a lint in which nothing outside fails: by its text, or by the first refusal of loading and then of the walk
abbrev pub WalkSays : Options → Repo → Result Walk LoadFault → ℕ → Type 0
WalkSays options repo (Ok walk) status = status ≡ said_by (lint_text options repo walk)
WalkSays options repo (Err fault) status = status ≡ unloaded_status fault

abbrev pub RepoSays : Options → FileMap → Result Repo LoadFault → ℕ → Type 0
RepoSays options files (Ok repo) status = WalkSays options repo (walking (look_of files) repo.profiles) status
RepoSays options files (Err fault) status = status ≡ unloaded_status fault

abbrev pub LintSays : Options → FileMap → ℕ → Type 0
LintSays options files status = RepoSays options files (loading (look_of files)) status
