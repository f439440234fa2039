-- How a query is named to people, CATEGORY/PF CLASS ARCH PATH LEVEL, and how a refusal tells one.
use Rattle.std.specs.Prelude.{◌≡◌, ℕ, ◌==◌, Bool, List, [], ◌++◌, slice_get, codes}
use Rattle.std.specs.List.{find}
use Rattle.std.specs.Option.{option_map_or}
use Rattle.gv_facts.specs.Classes.{class_text}
use Rattle.gv_facts.specs.declared.pkg.Pkg.{Pkg}
use Rattle.gv_facts.specs.declared.profile.Profile.{Profile}
use Rattle.gv_load.specs.declared.loading.Repo.{Repo}
use Rattle.gv_report.specs.Line.{level_text, package_text}
use Rattle.gv_cert.specs.Known.{KnownRecord}
use Rattle.gv_checks.specs.Limits.{IsFirstRefused}
use Rattle.gv_checks.specs.Queries.{Query}
use Rattle.gv_checks.specs.Recalled.{IsNotRecalled}
use Rattle.gv_checks.specs.declared.recalled.RecallFault.TheVariants as recalling
use Rattle.gv_merge.specs.Parts.{part_of}
use Rattle.gv_checks.specs.declared.fault.JudgeFault.{JudgeFault}
use Rattle.gv_checks.specs.declared.fault.JudgeFault.TheVariants as judges
use Rattle.gv_checks.specs.declared.names.QueryName.{QueryName}
use Rattle.gv_ending.specs.declared.refusal.Refusal.{Refusal}
use Rattle.gv_ending.specs.declared.refusal.Refusal.TheVariants.{Spent, Limit, Lacks}

abbrev pub has_line : ℕ → Profile → Bool
has_line line p = p.line == line

-- CATEGORY/PF
abbrev pub pkg_text : Pkg → List ℕ
pkg_text p = package_text p.category p.pf

-- ARCH PATH
abbrev pub profile_text : Profile → List ℕ
profile_text p = p.arch ++ (codes " " ++ p.path)

-- of the package with this number
abbrev pub pkg_at : Repo → ℕ → List ℕ
pkg_at repo n = option_map_or pkg_text (slice_get repo.pkgs n) []

-- of the profile of this line of the profile list
abbrev pub profile_at : Repo → ℕ → List ℕ
profile_at repo line = option_map_or profile_text (find (has_line line) repo.profiles) []

abbrev pub name_text : Repo → QueryName → List ℕ
name_text repo name =
    pkg_at repo name.«package» ++ (codes " " ++ (class_text name.class ++ (codes " " ++ (profile_at repo name.context.line ++ (codes " " ++ level_text name.context.level)))))

-- the same of a query itself: of its package, and of the profile in which it is asked
abbrev pub query_text : Query → List ℕ
query_text q =
    pkg_text q.case.member.pkg ++ (codes " " ++ (class_text q.class ++ (codes " " ++ (profile_text q.case.parent.profile ++ (codes " " ++ level_text q.case.parent.level)))))

-- a refusal that tells how a query of this repository was refused
abbrev pub TellsQuery : (JudgeFault → Type 0) → Repo → Refusal → Type 0
TellsQuery Refused repo (Spent text) = (name : QueryName) × (sets : List (List ℕ)) × (text ≡ name_text repo name) × Refused (judges.Spent name sets)
TellsQuery Refused repo (Limit place number) = Refused (judges.Limit place number)
TellsQuery Refused repo other = ⊥

-- the same of the first of these queries that is refused; the name is that of just this query, with the profile in which it is asked
abbrev pub TellsFirst : (budget : ℕ) → (given : List KnownRecord) → List Query → Repo → Refusal → Type 0
TellsFirst budget given queries repo (Spent text) =
    (name : QueryName) × (sets : List (List ℕ)) × (text ≡ name_text repo name) × (first : IsFirstRefused budget given queries (judges.Spent name sets)) × (text ≡ query_text first.query)
TellsFirst budget given queries repo (Limit place number) = IsFirstRefused budget given queries (judges.Limit place number)
TellsFirst budget given queries repo other = ⊥

-- a refusal that tells the first of these queries that is past a limit, or of which no given record is backed, with its part of so many
abbrev pub TellsLacking : (given : List KnownRecord) → List Query → (parts : ℕ) → Refusal → Type 0
TellsLacking given queries parts (Lacks part of query) = IsNotRecalled given queries (recalling.NotBacked query) × (part ≡ part_of parts query) × (of ≡ parts)
TellsLacking given queries parts (Limit place number) = IsNotRecalled given queries (recalling.Limit place number)
TellsLacking given queries parts other = ⊥
