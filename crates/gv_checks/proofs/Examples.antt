-- Values of the definitions on worked examples: which queries there are and in which order, which gates are first used, and a report of each
-- keyword that judging tells.
use Rattle.std.specs.Prelude.{◌≡◌, ℕ, Bool, true, false, List, [], ◌∷◌, ◌++◌, Option, None, Some, map, codes, refl}
use Rattle.std.proofs.Common.{arith}
use Rattle.gv_expr.specs.DepRead.{read_dep}
use Rattle.gv_expr.specs.RequiredRead.{read_required}
use Rattle.gv_entry.specs.declared.entry.Body.{Body}
use Rattle.gv_facts.specs.declared.kinds.Class.{Class}
use Rattle.gv_facts.specs.declared.kinds.Class.TheVariants.{Bdepend, Depend, Idepend, Pdepend, Rdepend, Required}
use Rattle.gv_facts.specs.declared.kinds.Eapi.{Eapi}
use Rattle.gv_facts.specs.declared.kinds.Eapi.TheVariants.{Eight, Six}
use Rattle.gv_facts.specs.declared.kinds.Status.{Status}
use Rattle.gv_facts.specs.declared.kinds.Status.TheVariants.{Dev, Exp, Stable}
use Rattle.gv_facts.specs.declared.pkg.Pkg.{Pkg}
use Rattle.gv_facts.specs.declared.profile.Profile.{Profile}
use Rattle.gv_load.specs.declared.loading.Repo.{Repo}
use Rattle.gv_logic.specs.Bytes.{number_bytes}
use Rattle.gv_report.specs.Keyword.{keyword_number}
use Rattle.gv_report.specs.declared.keyword.Keyword.{Keyword}
use Rattle.gv_report.specs.declared.keyword.Keyword.TheVariants as keywords
use Rattle.gv_report.specs.declared.options.Options.{Options}
use Rattle.gv_report.specs.declared.report.Report.{Report}
use Rattle.gv_plain.specs.Cases.{Case, case_at, cases}
use Rattle.gv_checks.specs.Certs.{first_uses}
use Rattle.gv_checks.specs.Chosen.{chosen}
use Rattle.gv_checks.specs.Queries.{Query, gates_of, queries, query_of}
use Rattle.gv_checks.specs.RepoReports.{reports}
use Rattle.gv_checks.specs.declared.chosen.Chosen.{Chosen}
use Rattle.gv_checks.specs.declared.chosen.Chosen.TheVariants.{Part}

-- app/NAME-1
abbrev pkg_of : (name : List ℕ) → Eapi → (words iuse : List (List ℕ)) → (live : Bool) → Pkg
pkg_of name eapi words iuse live = record {
  category = codes "app";
  name = name;
  version = codes "1";
  pf = name ++ codes "-1";
  eapi = eapi;
  slot = codes "0";
  sub = codes "0";
  keywords = words;
  iuse = iuse;
  iuse_plus = [];
  live = live;
}

abbrev profile_of : (line : ℕ) → (arch : List ℕ) → Status → Profile
profile_of line arch status = record {
  line = line;
  arch = arch;
  path = codes "base";
  status = status;
  testing = false;
  iuse_implicit = [];
  expand = [];
  expand_implicit = [];
  unprefixed = [];
  values = [];
  masks = [];
  rules = [];
}

-- no expression has a token
abbrev empty : Body
empty = record { required = Some []; depend = Some []; bdepend = Some []; rdepend = Some []; pdepend = Some []; idepend = Some [] }

abbrev repo_of : List Pkg → List Body → List Profile → Repo
repo_of pkgs bodies profiles = record { pkgs = pkgs; bodies = bodies; profiles = profiles; lines = []; notes = [] }

abbrev asking : List Keyword → Options
asking ks = record { keywords = ks; profiles = None; json = false; budget = 1; in_range = (omega arith, omega arith) }

abbrev asked : List Keyword
asked = keywords.NonsolvableDepsInStable ∷ keywords.NonsolvableDepsInDev ∷ keywords.NonsolvableDepsInExp ∷ keywords.UnsatisfiableRequiredUse ∷ []

-- ---- which queries there are, in order

-- the package's number, the profile's line, the class
abbrev name_in : Query → ℕ × ℕ × Class
name_in q = (q.case.member.number, q.case.parent.profile.line, q.class)

-- app/p-1 is accepted by both arches, app/q-1 by one; app/q-1 lacks two classes, and its RDEPEND is broken
abbrev two : Repo
two = repo_of
    (pkg_of (codes "p") Eight (codes "amd64" ∷ codes "~x86" ∷ []) [] false ∷ pkg_of (codes "q") Six (codes "x86" ∷ []) [] false ∷ [])
    (empty ∷ record empty { rdepend = None } ∷ [])
    (profile_of 2 (codes "amd64") Stable ∷ profile_of 5 (codes "x86") Dev ∷ [])

by_package_profile_class : map name_in (queries (asking asked) two) ≡
    (0, 2, Required) ∷ (0, 2, Depend) ∷ (0, 2, Bdepend) ∷ (0, 2, Rdepend) ∷ (0, 2, Pdepend) ∷ (0, 2, Idepend) ∷
    (0, 5, Required) ∷ (0, 5, Depend) ∷ (0, 5, Bdepend) ∷ (0, 5, Rdepend) ∷ (0, 5, Pdepend) ∷ (0, 5, Idepend) ∷
    (1, 5, Required) ∷ (1, 5, Depend) ∷ (1, 5, Pdepend) ∷ []
by_package_profile_class = refl

-- those of the keywords that are listed; where REQUIRED_USE is broken there are none
of_keywords : (map name_in (queries (asking (keywords.UnsatisfiableRequiredUse ∷ [])) two) ≡ (0, 2, Required) ∷ (0, 5, Required) ∷ (1, 5, Required) ∷ [])
    × (map name_in (queries (asking (keywords.NonsolvableDepsInExp ∷ [])) two) ≡ [])
    × (map name_in (queries (asking asked) (record two { bodies = record empty { required = None } ∷ [] })) ≡ [])
of_keywords = (refl, refl, refl)

-- each fourth query, from the third on
third_of_four : map name_in (chosen (Part 3 4) (queries (asking asked) two)) ≡ (0, 2, Bdepend) ∷ (0, 5, Required) ∷ (0, 5, Pdepend) ∷ (1, 5, Pdepend) ∷ []
third_of_four = refl

-- ---- first uses

-- DEPEND and RDEPEND are one expression, and the three other classes are empty
abbrev alike : Repo
alike = repo_of (pkg_of (codes "p") Eight (codes "amd64" ∷ []) [] false ∷ []) (record empty { depend = read_dep (codes "x/none"); rdepend = read_dep (codes "x/none") } ∷ [])
    (profile_of 1 (codes "amd64") Stable ∷ [])

abbrev of_classes : Repo → List Class → List Query
of_classes r classes = picked (cases r)
  where
    picked : List Case → List Query
    picked [] = []
    picked (c ∷ cs) = map (query_of c) classes

three_distinct : first_uses (map gates_of (queries (asking asked) alike)) ≡ map gates_of (of_classes alike (Required ∷ Depend ∷ Bdepend ∷ []))
unfolding number_bytes
three_distinct = refl

-- ---- a report of each keyword

abbrev told_in : Report → ℕ × Option (List ℕ) × Option (List ℕ)
told_in r = (keyword_number r.keyword, r.witness, r.detail)

-- a live package with a flag that isn't effective and a class that fails where a is on
abbrev failing : Status → Repo
failing status = repo_of (pkg_of (codes "p") Eight (codes "amd64" ∷ []) (codes "a" ∷ []) true ∷ [])
    (record empty { depend = read_dep (codes "g? ( app/p )"); rdepend = read_dep (codes "a? ( x/none )") } ∷ []) (profile_of 1 (codes "amd64") status ∷ [])

abbrev plain_ones : List (ℕ × Option (List ℕ) × Option (List ℕ))
plain_ones = (7, None, Some (codes "x/none")) ∷ (12, None, Some (codes "g")) ∷ (13, None, None) ∷ []

of_each_status : (map told_in (reports (failing Stable)) ≡ plain_ones ++ (8, Some (codes "a"), Some (codes "a? ( x/none )")) ∷ [])
    × (map told_in (reports (failing Dev)) ≡ plain_ones ++ (9, Some (codes "a"), Some (codes "a? ( x/none )")) ∷ [])
    × (map told_in (reports (failing Exp)) ≡ plain_ones ++ (10, Some (codes "a"), Some (codes "a? ( x/none )")) ∷ [])
of_each_status = (refl, refl, refl)

-- REQUIRED_USE that nothing meets, beside which no class fails
unmet : map told_in (reports (repo_of (pkg_of (codes "p") Eight (codes "amd64" ∷ []) (codes "a" ∷ []) false ∷ [])
    (record empty { required = read_required (codes "a !a"); rdepend = read_dep (codes "app/p x/none") } ∷ []) (profile_of 1 (codes "amd64") Stable ∷ [])))
    ≡ (7, None, Some (codes "x/none")) ∷ (11, None, Some (codes "a !a")) ∷ []
unmet = refl
