-- Words of private contracts: the reports of the edited files, judged anew or renewed.
-- After edits of entries alone these alone are read, and the other packages are taken from the repository of the last
-- report (`reread_entries` of `gv_load`); only what rests on the edited ones is judged (`renew` of `gv_renew`). Where
-- that call can't tell (`Unclear`), all is loaded, the repository is put together of both (`with_entries`), and
-- `entries_law` says that it is that of the edited files; so what may be lowered doesn't rest on how the files were
-- read. With no new edit the last report stands.
use Rattle.std.specs.Prelude.{◌≡◌, ℕ, ◌+◌, ◌≤◌, List, length, Option, option_map, IfSome}
use Rattle.std.specs.List.{AllByRecursion}
use Rattle.gv_base.specs.Counts.{Counts}
use Rattle.gv_base.specs.FileMap.{FileMap}
use Rattle.gv_edits.specs.declared.edit.Edit.{Edit}
use Rattle.gv_load.specs.Repository.{AreClassless, AreInPackageOrder}
use Rattle.gv_reload.specs.EntryEdits.{IsAllBut}
use Rattle.gv_load.specs.declared.loading.Loaded.{Loaded}
use Rattle.gv_load.specs.declared.loading.Repo.{Repo}
use Rattle.gv_report.specs.declared.options.Options.{Options}
use Rattle.gv_checks.specs.Limits.{IsWithin}
use Rattle.gv_checks.specs.Queries.{queries}
use Rattle.gv_renew.specs.Renewal.{IsRenewed}
use Rattle.gv_checks.specs.RepoReports.{scan_reports}
use Rattle.gv_session.specs.Due.{due}
use Rattle.gv_session.specs.Session.{CauseFor, IsFound, IsLoaded}
use Rattle.gv_session.specs.declared.fault.SessionFault.{SessionFault}
use Rattle.gv_session.specs.declared.last.Last.{Last}

-- what a judging starts from: what is reported and how, the edits, the files where they are told, how many edits were seen, and what
-- was counted before
pub record Outset : Type 0 where
  pub options : Options
  pub edits : List Edit
  pub told : Option FileMap
  pub seen : Option ℕ
  pub before : Counts

abbrev pub outset : Options → List Edit → Option FileMap → Option ℕ → Counts → Outset
outset options edits told seen before = record { options = options; edits = edits; told = told; seen = seen; before = before }

-- the reports of a repository of the edited files; what is left is so of all edits; and no more was lowered than is due
pub record IsJudgedFor (o : Outset) (now : Counts) (l : Last) : Type 0 where
  pub repo : Repo
  pub but : IsAllBut l.loaded.repo repo
  pub bodies : length l.loaded.repo.bodies ≡ length l.loaded.repo.pkgs
  pub order : AreInPackageOrder l.loaded.repo.pkgs
  pub classless : AreClassless repo.notes
  pub loaded : IsLoaded o.edits o.told repo
  pub found : IsFound o.edits o.told l.loaded
  pub seen : l.seen ≡ length o.edits
  pub within : AllByRecursion IsWithin (queries o.options repo)
  pub reports : l.reports ≡ scan_reports o.options repo
  pub mentioned : l.mentioned ≡ l.loaded.repo.bodies
  pub lowered : now.lower ≤ o.before.lower + length (queries o.options repo)
  pub few : IfSome o.told (λ files. now.lower ≤ o.before.lower + due o.options repo l.loaded.folders o.edits o.seen)

-- why there are none
abbrev pub IsRefusedFor : Outset → (tree_before tree_now : ℕ) → (now : Counts) → SessionFault → Type 0
IsRefusedFor o tree_before tree_now now fault = CauseFor o.options o.edits o.told tree_before tree_now o.before now fault

-- how many edits the last report saw, if there was one
abbrev pub seen_by : Option Last → Option ℕ
seen_by last = option_map (λ (l : Last). l.seen) last

-- the reports of this very repository, all judged anew
pub record IsAnew (options : Options) (whole : Loaded) (edits : List Edit) (before now : Counts) (l : Last) : Type 0 where
  pub loaded_is : l.loaded ≡ whole
  pub seen : l.seen ≡ length edits
  pub within : AllByRecursion IsWithin (queries options whole.repo)
  pub reports : l.reports ≡ scan_reports options whole.repo
  pub mentioned : l.mentioned ≡ whole.repo.bodies
  pub lowered : now.lower ≤ before.lower + length (queries options whole.repo)

-- those of the repository that the files with the edits load to, all judged anew
pub record IsAll (options : Options) (edits : List Edit) (told : Option FileMap) (before now : Counts) (l : Last) : Type 0 where
  pub whole : Loaded
  pub loaded : IsLoaded edits told whole.repo
  pub found : IsFound edits told whole
  pub bodies : length whole.repo.bodies ≡ length whole.repo.pkgs
  pub order : AreInPackageOrder whole.repo.pkgs
  pub classless : AreClassless whole.repo.notes
  pub anew : IsAnew options whole edits before now l

-- the reports of a whole repository of which this is a part, of which those that are due were judged
pub record IsAgain (options : Options) (paths : List (List ℕ)) (part : Loaded) (whole : Repo) (edits : List Edit) (before now : Counts) (l : Last) : Type 0 where
  pub loaded_is : l.loaded ≡ part
  pub seen : l.seen ≡ length edits
  pub renewed : IsRenewed options paths whole before now l.reports
  pub mentioned : l.mentioned ≡ part.repo.bodies
