-- The queries and the reports of some packages of a repository, among all of which they are judged; bits say which packages these are.
use Rattle.std.specs.Prelude.{◌≡◌, Bool, List, ◌++◌, filter, filter_map, flat_map}
use Rattle.std.specs.Borrow.{Bor}
use Rattle.gv_report.specs.Selecting.{selected}
use Rattle.gv_report.specs.declared.options.Options.{Options}
use Rattle.gv_report.specs.declared.report.Report.{Report}
use Rattle.gv_load.specs.declared.loading.Repo.{Repo}
use Rattle.gv_plain.specs.Cases.{Member, cases_of, members}
use Rattle.gv_checks.specs.Chosen.{chosen, is_own, told_chosen}
use Rattle.gv_checks.specs.Queries.{Query, case_queries, case_queries_all, queries}
use Rattle.gv_plain.specs.PlainReports.{member_plain}
use Rattle.gv_checks.specs.RepoReports.{query_report}
use Rattle.gv_checks.specs.declared.chosen.Chosen.TheVariants.{Packages}

-- of these packages what needs no query, and what their queries tell
abbrev pub reports_of_members : Repo → List Member → List Report
reports_of_members repo ms = flat_map (member_plain repo) ms ++ filter_map query_report (flat_map case_queries_all (flat_map (cases_of repo) ms))

-- those whose bits are on
abbrev pub is_on : (bits : List Bool) → Member → Bool
is_on bits m = is_own bits m.number

abbrev pub members_on : (bits : List Bool) → Repo → List Member
members_on bits repo = filter (is_on bits) (members repo)

abbrev pub queries_on : (bits : List Bool) → Options → Repo → List Query
queries_on bits options repo = flat_map (case_queries options) (flat_map (cases_of repo) (members_on bits repo))

abbrev pub reports_on : (bits : List Bool) → Repo → List Report
reports_on bits repo = reports_of_members repo (members_on bits repo)

-- Choosing packages chooses their queries, and what is told of them and of these queries are their selected reports.
pub record PackagesLaw (bits : Bor (List Bool)) (options : Options) (repo : Repo) : Type 0 where
  pub queries_are : chosen (Packages bits) (queries options repo) ≡ queries_on bits.now options repo
  pub reports_are : told_chosen (Packages bits) options repo ++ filter_map query_report (queries_on bits.now options repo) ≡ filter (selected options) (reports_on bits.now repo)
