-- The reports that need no query, as far as they are selected; the flags that are looked for once for a package, not in each profile: those
-- that its IUSE has are effective everywhere.
use Rattle.std.specs.Prelude.{ℕ, Bool, not, ◌&&◌, if◌then◌else◌, List, [], ◌++◌, map, filter, flat_map, Option, None, Some}
use Rattle.gv_base.specs.Order.{has_text}
use Rattle.gv_expr.specs.Dep.{Deps}
use Rattle.gv_expr.specs.Mentions.{wanted_atoms}
use Rattle.gv_entry.specs.declared.entry.Body.{Body}
use Rattle.gv_facts.specs.declared.kinds.Class.{Class}
use Rattle.gv_facts.specs.declared.pkg.Pkg.{Pkg}
use Rattle.gv_report.specs.Selecting.{in_profiles, selected}
use Rattle.gv_report.specs.Keyword.{has_keyword}
use Rattle.gv_report.specs.declared.keyword.Keyword.{Keyword}
use Rattle.gv_report.specs.declared.keyword.Keyword.TheVariants as keywords
use Rattle.gv_report.specs.declared.options.Options.{Options}
use Rattle.gv_report.specs.declared.report.Report.{Report}
use Rattle.gv_plain.specs.Cases.{Case, Member, cases_of, members}
use Rattle.gv_plain.specs.PlainReports.{context_of, is_nowhere, is_unstated, live_in, mentioned_in, nonexistent, nonexistent_in, readable_classes, unstated, unstated_in}
use Rattle.gv_load.specs.declared.loading.Repo.{Repo}
use Rattle.gv_plain.specs.declared.unstated.OtherFlags.{OtherFlags}

-- the keyword is listed, and the profile selected
abbrev pub is_told : Options → Case → Keyword → Bool
is_told options c keyword = has_keyword options.keywords keyword && in_profiles options.profiles (Some (context_of c.parent))

-- of the atoms of trees
abbrev pub nowhere_in : List Pkg → Pkg → Class → Deps → List Report
nowhere_in among p class ts = map (nonexistent p class) (filter (is_nowhere among) (wanted_atoms ts))

-- the flags that a class mentions and that aren't in the package's IUSE
abbrev pub is_other : Pkg → List ℕ → Bool
is_other p flag = not (has_text p.iuse flag)

abbrev pub other_flags : Pkg → Body → Class → OtherFlags
other_flags p body class = record { class = class; flags = filter (is_other p) (mentioned_in body class) }

-- those of them that aren't effective
abbrev pub unstated_among : Case → OtherFlags → List Report
unstated_among c others = map (unstated c others.class) (filter (is_unstated c) others.flags)

-- What is told of a package, and in a context.
abbrev pub told_nonexistent : Options → List Pkg → Pkg → Body → List Report
told_nonexistent o among p body = if has_keyword o.keywords keywords.NonexistentDeps then flat_map (nonexistent_in among p body) (readable_classes p body) else []

abbrev pub told_unstated : Options → Case → List Report
told_unstated o c = if is_told o c keywords.UnstatedIuse then flat_map (unstated_in c) (readable_classes c.member.pkg c.member.body) else []

abbrev pub told_live : Options → Case → List Report
told_live o c = if is_told o c keywords.VisibleVcsPkg then live_in c else []

abbrev pub told_case : Options → Case → List Report
told_case o c = told_unstated o c ++ told_live o c

abbrev pub told_in : Options → Option Case → List Report
told_in o None = []
told_in o (Some c) = told_case o c

abbrev pub told_member : Options → Repo → Member → List Report
told_member o repo m = told_nonexistent o repo.pkgs m.pkg m.body ++ flat_map (told_case o) (cases_of repo m)

abbrev pub told : Options → Repo → List Report
told o repo = filter (selected o) repo.notes ++ flat_map (told_member o repo) (members repo)
