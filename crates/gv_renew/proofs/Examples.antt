-- Values of the definitions on worked examples: which queries are due, what is told anew, and which reports are stale behind edits.
use Rattle.std.specs.Prelude.{◌≡◌, ℕ, Bool, true, false, List, [], ◌∷◌, ◌++◌, Option, None, Some, map, codes, refl}
use Rattle.std.proofs.Common.{arith}
use Rattle.gv_expr.specs.DepRead.{read_dep}
use Rattle.gv_entry.specs.declared.entry.Body.{Body}
use Rattle.gv_facts.specs.declared.kinds.Class.{Class}
use Rattle.gv_facts.specs.declared.kinds.Class.TheVariants.{Depend, Pdepend, Rdepend}
use Rattle.gv_facts.specs.declared.kinds.Eapi.TheVariants.{Eight}
use Rattle.gv_facts.specs.declared.kinds.Status.TheVariants as statuses
use Rattle.gv_facts.specs.declared.pkg.Pkg.{Pkg}
use Rattle.gv_facts.specs.declared.profile.Profile.{Profile}
use Rattle.gv_load.specs.Paths.{cache_dir}
use Rattle.gv_load.specs.declared.loading.Repo.{Repo}
use Rattle.gv_report.specs.declared.keyword.Keyword.{Keyword}
use Rattle.gv_report.specs.declared.keyword.Keyword.TheVariants as keywords
use Rattle.gv_report.specs.declared.options.Options.{Options}
use Rattle.gv_report.specs.declared.report.Report.{Report}
use Rattle.gv_plain.specs.Cases.{members}
use Rattle.gv_checks.specs.Queries.{queries}
use Rattle.gv_plain.specs.PlainReports.{subject_of}
use Rattle.gv_renew.specs.Renewal.{is_due, is_stale, told_anew}

-- CATEGORY/NAME-1
abbrev pkg_of : (category name : List ℕ) → Pkg
pkg_of category name = record {
  category = category;
  name = name;
  version = codes "1";
  pf = name ++ codes "-1";
  eapi = Eight;
  slot = codes "0";
  sub = codes "0";
  keywords = codes "amd64" ∷ [];
  iuse = [];
  iuse_plus = [];
  live = false;
}

abbrev profile : Profile
profile = record {
  line = 1;
  arch = codes "amd64";
  path = codes "base";
  status = statuses.Stable;
  testing = false;
  iuse_implicit = [];
  expand = [];
  expand_implicit = [];
  unprefixed = [];
  values = [];
  masks = [];
  rules = [];
}

abbrev empty : Body
empty = record { required = Some []; depend = Some []; bdepend = Some []; rdepend = Some []; pdepend = Some []; idepend = Some [] }

-- app/p-1, which wants x/y and x/none and blocks x/gone, and x/y-1
abbrev repo : Repo
repo = record {
  pkgs = pkg_of (codes "app") (codes "p") ∷ pkg_of (codes "x") (codes "y") ∷ [];
  bodies = record empty { depend = read_dep (codes "!x/gone"); rdepend = read_dep (codes "x/none || ( x/y x/z )"); pdepend = read_dep (codes "x/lost") } ∷ empty ∷ [];
  profiles = profile ∷ [];
  lines = [];
  notes = [];
}

abbrev options : Options
options = record {
  keywords = keywords.NonexistentDeps ∷ keywords.NonsolvableDepsInStable ∷ keywords.UnsatisfiableRequiredUse ∷ [];
  profiles = None;
  json = false;
  budget = 1;
  in_range = (omega arith, omega arith);
}

abbrev due_behind : (path : List ℕ) → List Bool
due_behind path = map (is_due (path ∷ [])) (queries options repo)

-- An edited package is due, and a class with an atom of the name of an edited entry, whether it is there or not, in whatever version. The
-- six queries of app/p-1 stand before those of x/y-1; a blocker mentions no name.
due : (due_behind (codes "metadata/md5-cache/x/y-1") ≡ false ∷ false ∷ false ∷ true ∷ false ∷ false ∷ true ∷ true ∷ true ∷ true ∷ true ∷ true ∷ [])
    × (due_behind (codes "metadata/md5-cache/x/none-3") ≡ false ∷ false ∷ false ∷ true ∷ false ∷ false ∷ false ∷ false ∷ false ∷ false ∷ false ∷ false ∷ [])
    × (due_behind (codes "metadata/md5-cache/x/gone-1") ≡ false ∷ false ∷ false ∷ false ∷ false ∷ false ∷ false ∷ false ∷ false ∷ false ∷ false ∷ false ∷ [])
unfolding cache_dir
due = (refl, refl, refl)

-- of each package: the class, and the atom that matches nothing
abbrev anew_behind : (path : List ℕ) → List (List (Option Class × Option (List ℕ)))
anew_behind path = map (λ m. map (λ (r : Report). (r.class, r.detail)) (told_anew options (path ∷ []) repo m)) (members repo)

-- of an edited package all is told anew, of another one what a class with such an atom lacks
anew : (anew_behind (codes "metadata/md5-cache/x/none-1") ≡ ((Some Rdepend, Some (codes "x/none")) ∷ (Some Rdepend, Some (codes "x/z")) ∷ []) ∷ [] ∷ [])
    × (anew_behind (codes "metadata/md5-cache/app/p-1") ≡ ((Some Rdepend, Some (codes "x/none")) ∷ (Some Rdepend, Some (codes "x/z")) ∷ (Some Pdepend, Some (codes "x/lost")) ∷ []) ∷ [] ∷ [])
unfolding cache_dir
anew = (refl, refl)

-- of app/p-1
abbrev report_of : Keyword → Option Class → Report
report_of keyword class = record { subject = subject_of (pkg_of (codes "app") (codes "p")); keyword = keyword; class = class; context = None; witness = None; detail = None }

abbrev stale_behind : (path : List ℕ) → Report → Bool
stale_behind path = is_stale (path ∷ []) (members repo)

-- a report of an edited package, or one that rests on the atoms of such a class
stale : (stale_behind (codes "metadata/md5-cache/x/y-1") (report_of keywords.NonsolvableDepsInStable (Some Rdepend)) ≡ true)
    × (stale_behind (codes "metadata/md5-cache/x/y-1") (report_of keywords.NonsolvableDepsInStable (Some Depend)) ≡ false)
    × (stale_behind (codes "metadata/md5-cache/x/y-1") (report_of keywords.UnstatedIuse (Some Rdepend)) ≡ false)
    × (stale_behind (codes "metadata/md5-cache/app/p-1") (report_of keywords.UnstatedIuse (Some Rdepend)) ≡ true)
unfolding cache_dir
stale = (refl, refl, refl, refl)
