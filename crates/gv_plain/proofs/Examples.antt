-- Values of the definitions on worked examples: a report of each keyword that needs no query.
use Rattle.std.specs.Prelude.{◌≡◌, ℕ, Bool, true, false, List, [], ◌∷◌, Option, None, Some, map, codes, refl}
use Rattle.std.proofs.Common.{arith}
use Rattle.gv_expr.specs.DepRead.{read_dep}
use Rattle.gv_expr.specs.RequiredRead.{read_required}
use Rattle.gv_entry.specs.declared.entry.Body.{Body}
use Rattle.gv_facts.specs.declared.kinds.Class.{Class}
use Rattle.gv_facts.specs.declared.kinds.Class.TheVariants.{Required, Depend, Rdepend}
use Rattle.gv_facts.specs.declared.kinds.Eapi.TheVariants.{Eight}
use Rattle.gv_facts.specs.declared.kinds.Status.TheVariants.{Stable}
use Rattle.gv_facts.specs.declared.pkg.Pkg.{Pkg}
use Rattle.gv_facts.specs.declared.profile.Profile.{Profile}
use Rattle.gv_load.specs.declared.loading.Repo.{Repo}
use Rattle.gv_report.specs.Keyword.{keyword_number}
use Rattle.gv_report.specs.declared.keyword.Keyword.TheVariants as keywords
use Rattle.gv_report.specs.declared.options.Options.{Options}
use Rattle.gv_report.specs.declared.report.Report.{Report}
use Rattle.gv_plain.specs.Plain.{told}
use Rattle.gv_plain.specs.PlainReports.{plain_reports}
use Rattle.gv_plain.specs.Telling.{plain_of}

-- app/p-1, with the flag a
abbrev pkg_of : (live : Bool) → Pkg
pkg_of live = record {
  category = codes "app";
  name = codes "p";
  version = codes "1";
  pf = codes "p-1";
  eapi = Eight;
  slot = codes "0";
  sub = codes "0";
  keywords = codes "amd64" ∷ [];
  iuse = codes "a" ∷ [];
  iuse_plus = [];
  live = live;
}

abbrev profile_of : (line : ℕ) → (arch : List ℕ) → Profile
profile_of line arch = record {
  line = line;
  arch = arch;
  path = codes "base";
  status = Stable;
  testing = false;
  iuse_implicit = codes "i" ∷ [];
  expand = [];
  expand_implicit = [];
  unprefixed = [];
  values = [];
  masks = [];
  rules = [];
}

-- judged on the first line alone
abbrev repo_of : (live : Bool) → Body → Repo
repo_of live body = record {
  pkgs = pkg_of live ∷ [];
  bodies = body ∷ [];
  profiles = profile_of 1 (codes "amd64") ∷ profile_of 2 (codes "x86") ∷ [];
  lines = [];
  notes = [];
}

abbrev empty : Body
empty = record { required = Some []; depend = Some []; bdepend = Some []; rdepend = Some []; pdepend = Some []; idepend = Some [] }

abbrev told_in : Report → ℕ × Option Class × Option (List ℕ)
told_in r = (keyword_number r.keyword, r.class, r.detail)

-- an atom in each group that matches nothing; a blocker tells nothing, and neither does a broken class
atoms : map told_in (plain_reports (repo_of false (record empty { depend = read_dep (codes "x/one || ( app/p a? ( x/two ) ) !x/three"); rdepend = None })))
    ≡ (7, Some Depend, Some (codes "x/one")) ∷ (7, Some Depend, Some (codes "x/two")) ∷ []
atoms = refl

-- a flag of IUSE and one of IUSE_IMPLICIT are effective; the others are told in the one context, by class
flags : map told_in (plain_reports (repo_of false (record empty { required = read_required (codes "a !g"); rdepend = read_dep (codes "i? ( app/p ) h? ( app/p )") })))
    ≡ (12, Some Required, Some (codes "g")) ∷ (12, Some Rdepend, Some (codes "h")) ∷ []
flags = refl

-- a live package, by its number; there is no other
live : (map told_in (plain_of (repo_of true empty) 0) ≡ (13, None, None) ∷ []) × (plain_of (repo_of true empty) 1 ≡ [])
live = (refl, refl)

abbrev asking : Option (List (List ℕ)) → Options
asking profiles = record { keywords = keywords.VisibleVcsPkg ∷ []; profiles = profiles; json = false; budget = 1; in_range = (omega arith, omega arith) }

-- what is told of it where its keyword is listed; of another profile nothing
selected : (map told_in (told (asking None) (repo_of true (record empty { depend = read_dep (codes "x/one") }))) ≡ (13, None, None) ∷ [])
    × (told (asking (Some (codes "other" ∷ []))) (repo_of true empty) ≡ [])
selected = (refl, refl)
