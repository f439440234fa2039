-- The reports of profiles that options select: each profile is selected whole, or not at all.
use Rattle.std.specs.Prelude.{ℕ, Bool, true, ◌&&◌, if◌then◌else◌, List, [], Option, None, Some}
use Rattle.gv_base.specs.Order.{has_text}
use Rattle.gv_facts.specs.declared.profile.Profile.{Profile}
use Rattle.gv_load.specs.declared.loading.Repo.{Repo}
use Rattle.gv_report.specs.Keyword.{has_keyword}
use Rattle.gv_report.specs.declared.keyword.Keyword.TheVariants.{RequiredUseDefaults}
use Rattle.gv_report.specs.declared.options.Options.{Options}
use Rattle.gv_report.specs.declared.report.Report.{Report}
use Rattle.gv_usedefaults.specs.declared.walk.Walk.{Walk}
use Rattle.gv_usedefaults.specs.Reports.{profile_reports}

abbrev pub has_path : Option (List (List ℕ)) → List ℕ → Bool
has_path None path = true
has_path (Some paths) path = has_text paths path

abbrev pub is_told : Options → Profile → Bool
is_told options profile = has_keyword options.keywords RequiredUseDefaults && has_path options.profiles profile.path

abbrev pub selected_in : Options → Repo → Walk → Profile → List Report
selected_in options repo walk profile = if is_told options profile then profile_reports repo walk profile else []
