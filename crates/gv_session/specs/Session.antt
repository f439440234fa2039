-- A session: its edits, its reports, and why there is none.
-- Contracts see a session as its options, the list of its edits, and what the last report left. What is kept is so of
-- the tree's files (`Agrees`), which is what a caller has to hold; a session without a report keeps nothing. Where the
-- edited files aren't told nothing is lost by that: the text is still that of some repository. A refusal by a query
-- hands the repository out beside the fault, since the query's name has numbers of that repository.
use Rattle.std.specs.Prelude.{◌≡◌, ℕ, ◌+◌, ◌≤◌, List, [], ◌∷◌, ◌++◌, length, take, Option, option_map, IfSome, Ok, Err}
use Rattle.std.specs.List.{AllByRecursion}
use Rattle.gv_base.specs.Causes.{Rose}
use Rattle.gv_base.specs.Counts.{Counts}
use Rattle.gv_base.specs.FileMap.{FileMap}
use Rattle.gv_edits.specs.Edits.{edited, edited_told}
use Rattle.gv_edits.specs.declared.edit.Edit.{Edit}
use Rattle.gv_load.specs.Loading.{PassesWithin, loading}
use Rattle.gv_load.specs.Repository.{AreClassless, AreInPackageOrder, folders_of}
use Rattle.gv_reload.specs.EntryEdits.{IsAllBut}
use Rattle.gv_reading.specs.Look.{look_of}
use Rattle.gv_reading.specs.declared.faults.LoadFault.{LoadFault}
use Rattle.gv_reading.specs.declared.faults.LoadFault.TheVariants as loads
use Rattle.gv_load.specs.declared.loading.Loaded.{Loaded}
use Rattle.gv_load.specs.declared.loading.Repo.{Repo}
use Rattle.gv_report.specs.declared.options.Options.{Options}
use Rattle.gv_checks.specs.Limits.{IsWithin, Refuses}
use Rattle.gv_checks.specs.Queries.{queries}
use Rattle.gv_checks.specs.RepoReports.{scan_reports, scan_text}
use Rattle.gv_checks.specs.declared.fault.JudgeFault.TheVariants as judges
use Rattle.gv_session.specs.Due.{due}
use Rattle.gv_session.specs.declared.last.Last.{Last}
use Rattle.gv_session.specs.declared.fault.SessionFault.{SessionFault}
use Rattle.gv_session.specs.declared.fault.SessionFault.TheVariants.{Load, Judge, NoMemory}

-- what is reported and how, all edits in order, and what the last report left, if there was one and it wasn't refused
pub record State : Type 0 where
  pub options : Options
  pub edits : List Edit
  pub last : Option Last

-- how many edits it saw
abbrev pub seen_in : State → Option ℕ
seen_in s = option_map (λ (l : Last). l.seen) s.last

-- one more edit
abbrev pub with_edit : State → Edit → State
with_edit s edit = record { options = s.options; edits = s.edits ++ edit ∷ []; last = s.last }

-- the files with the edits load to this repository, where they are told
abbrev pub IsLoaded : List Edit → (told : Option FileMap) → Repo → Type 0
IsLoaded edits told repo = IfSome (edited_told told edits) (λ files. loading (look_of files) ≡ Ok repo)

-- loading them passes, and finds no more files than that, and these folders, where they are told
abbrev pub IsFound : List Edit → (told : Option FileMap) → Loaded → Type 0
IsFound edits told loaded = IfSome (edited_told told edits) (λ files. PassesWithin files loaded.found × (loaded.folders ≡ folders_of (look_of files)))

-- loading them is refused so, where they are told
abbrev pub IsUnloaded : List Edit → (told : Option FileMap) → LoadFault → Type 0
IsUnloaded edits told fault = IfSome (edited_told told edits) (λ files. loading (look_of files) ≡ Err fault)

-- the text of the scan of a repository, each of whose queries is within the limits; at most one lowering is counted for each
pub record IsJudgedText (options : Options) (repo : Repo) (before now : Counts) (text : List ℕ) : Type 0 where
  pub within : AllByRecursion IsWithin (queries options repo)
  pub text_is : text ≡ scan_text options repo
  pub lowered : now.lower ≤ before.lower + length (queries options repo)

-- the report of a session: that of the repository of the edited files, and no more was lowered than is due; where the files
-- aren't told, of some repository, in package order and with a body for each package
pub record IsReport (s : State) (told : Option FileMap) (before now : Counts) (text : List ℕ) : Type 0 where
  pub repo : Repo
  pub loaded : IsLoaded s.edits told repo
  pub bodies : length repo.bodies ≡ length repo.pkgs
  pub order : AreInPackageOrder repo.pkgs
  pub judged : IsJudgedText s.options repo before now text
  pub few : IfSome told (λ files. now.lower ≤ before.lower + due s.options repo (folders_of (look_of (edited files s.edits))) s.edits (seen_in s))

-- what a report left is so of the files with the edits that it saw: the repository that is kept is theirs but for its notes, so are the
-- folders, so many files are found at most, each of its queries was within the limits, the reports are those of its scan, and the mentioned names are
-- those of its packages
pub record IsLast (options : Options) (edits : List Edit) (told : Option FileMap) (l : Last) : Type 0 where
  pub repo : Repo
  pub but : IsAllBut l.loaded.repo repo
  pub bodies : length l.loaded.repo.bodies ≡ length l.loaded.repo.pkgs
  pub order : AreInPackageOrder l.loaded.repo.pkgs
  pub classless : AreClassless repo.notes
  pub few : l.seen ≤ length edits
  pub loaded : IsLoaded (take l.seen edits) told repo
  pub found : IsFound (take l.seen edits) told l.loaded
  pub within : AllByRecursion IsWithin (queries options repo)
  pub reports : l.reports ≡ scan_reports options repo
  pub mentioned : l.mentioned ≡ l.loaded.repo.bodies

-- what a session keeps is so of these files
abbrev pub Agrees : (told : Option FileMap) → State → Type 0
Agrees told s = IfSome s.last (IsLast s.options s.edits told)

-- Why a repository wasn't judged: its first query that is refused, where no answers are known. The repository of the names may be
-- without some notes.
abbrev pub JudgeCause : Options → Repo → SessionFault → Type 0
JudgeCause options repo (Load fault) = ⊥
JudgeCause options repo (Judge (judges.Spent name sets) named) = IsAllBut named repo × Refuses options.budget [] (queries options repo) (judges.Spent name sets)
JudgeCause options repo (Judge (judges.Limit place number) named) = IsAllBut named repo × Refuses options.budget [] (queries options repo) (judges.Limit place number)
JudgeCause options repo (Judge judges.NoMemory named) = ⊥
JudgeCause options repo NoMemory = Unit {0}

-- Why there is no report. A fault of the tree comes with a count that rose; the other refusals with a count that stands: the
-- first in reading order over the edited files, where they are told, and then the first query that is refused. Want of
-- memory says nothing.
abbrev pub CauseFor : Options → List Edit → (told : Option FileMap) → (tree_before tree_now : ℕ) → (before now : Counts) → SessionFault → Type 0
CauseFor options edits told tree_before tree_now before now (Load (loads.Tree path)) = Rose tree_before tree_now × (now ≡ before)
CauseFor options edits told tree_before tree_now before now (Load (loads.NotARepository path)) = (tree_now ≡ tree_before) × ((now ≡ before) × IsUnloaded edits told (loads.NotARepository path))
CauseFor options edits told tree_before tree_now before now (Load (loads.Limit place number)) = (tree_now ≡ tree_before) × ((now ≡ before) × IsUnloaded edits told (loads.Limit place number))
CauseFor options edits told tree_before tree_now before now (Load loads.NoMemory) = ⊥
CauseFor options edits told tree_before tree_now before now (Judge fault named) =
    (tree_now ≡ tree_before) × ((repo : Repo) × (IsLoaded edits told repo × JudgeCause options repo (Judge fault named)))
CauseFor options edits told tree_before tree_now before now NoMemory = Unit {0}

abbrev pub ReportCause : State → (told : Option FileMap) → (tree_before tree_now : ℕ) → (before now : Counts) → SessionFault → Type 0
ReportCause s = CauseFor s.options s.edits
