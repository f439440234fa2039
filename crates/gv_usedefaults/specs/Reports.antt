-- The reports of REQUIRED_USE that the defaults of flags don't meet.
use Rattle.std.specs.Prelude.{ℕ, Bool, if◌then◌else◌, List, [], ◌∷◌, ◌++◌, Option, Some, None, map, flat_map, option_to_list, codes}
use Rattle.gv_base.specs.Words.{joined}
use Rattle.gv_expr.specs.Mentions.{mentioned_required}
use Rattle.gv_expr.specs.Required.{Req, reqs}
use Rattle.gv_expr.specs.RequiredGrammar.{req_text}
use Rattle.gv_entry.specs.Holds.{empty_holds, reqs_hold}
use Rattle.gv_entry.specs.declared.entry.Body.{Body}
use Rattle.gv_facts.specs.Visible.{judged}
use Rattle.gv_facts.specs.declared.kinds.Level.{Level}
use Rattle.gv_facts.specs.declared.pkg.Pkg.{Pkg}
use Rattle.gv_facts.specs.declared.profile.Profile.{Profile}
use Rattle.gv_report.specs.declared.keyword.Keyword.TheVariants.{RequiredUseDefaults}
use Rattle.gv_report.specs.declared.report.ContextName.{ContextName}
use Rattle.gv_report.specs.declared.report.Report.{Report}
use Rattle.gv_report.specs.declared.report.Subject.TheVariants.{Package}
use Rattle.gv_load.specs.declared.loading.Repo.{Repo}
use Rattle.gv_usedefaults.specs.declared.defaults.UseDefaults.{UseDefaults}
use Rattle.gv_usedefaults.specs.declared.walk.Walk.{Walk}
use Rattle.gv_usedefaults.specs.Defaults.{all_iuse, default_of, defaults_over}
use Rattle.gv_usedefaults.specs.Walk.{dirs_at}

-- the flags, each with `-` before it where it is off, joined by one space
abbrev pub witness_word : (on : List ℕ → Bool) → List ℕ → List ℕ
witness_word on flag = if on flag then flag else codes "-" ++ flag

abbrev pub witness_of : (on : List ℕ → Bool) → List (List ℕ) → List ℕ
witness_of on flags = joined (map (witness_word on) flags)

abbrev pub context_in : Profile → Level → ContextName
context_in profile level = record { line = profile.line; arch = profile.arch; path = profile.path; level = level }

abbrev pub use_report : Pkg → Profile → Level → (on : List ℕ → Bool) → List Req → Report
use_report p profile level on required = record {
  subject = Package p.category p.name p.version p.pf;
  keyword = RequiredUseDefaults;
  class = None;
  context = Some (context_in profile level);
  witness = Some (witness_of on (mentioned_required (reqs required)));
  detail = Some (req_text (reqs required));
}

-- where REQUIRED_USE doesn't hold under these flags
abbrev pub unmet : Pkg → Profile → Level → (on : List ℕ → Bool) → List Req → Option Report
unmet p profile level on required =
    if reqs_hold (reqs required) on (empty_holds p.eapi) then None else Some (use_report p profile level on required)

-- of a package at the level at which it is judged, whose REQUIRED_USE isn't broken
abbrev pub told_at : Pkg → Profile → UseDefaults → Option Level → Option (List Req) → Option Report
told_at p profile d None required = None
told_at p profile d (Some level) None = None
told_at p profile d (Some level) (Some required) = unmet p profile level (default_of p profile level d) required

abbrev pub told_of : Profile → UseDefaults → Pkg → Body → Option Report
told_of profile d p body = told_at p profile d (judged p profile) body.required

-- of these packages, each with its body
abbrev pub told_among : Profile → UseDefaults → List Pkg → List Body → List Report
told_among profile d [] bodies = []
told_among profile d (p ∷ ps) [] = []
told_among profile d (p ∷ ps) (body ∷ bodies) = option_to_list (told_of profile d p body) ++ told_among profile d ps bodies

-- the defaults of a line
abbrev pub defaults_of : Repo → Walk → ℕ → UseDefaults
defaults_of repo walk line = defaults_over walk.files (all_iuse repo.pkgs) (dirs_at walk.stacks line)

abbrev pub profile_reports : Repo → Walk → Profile → List Report
profile_reports repo walk profile = told_among profile (defaults_of repo walk profile.line) repo.pkgs repo.bodies

-- profile by profile, package by package
abbrev pub use_reports : Repo → Walk → List Report
use_reports repo walk = flat_map (profile_reports repo walk) repo.profiles
