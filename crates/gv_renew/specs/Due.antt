-- For private contracts: the queries that are due, package by package, and how they are answered.
-- The packages with the classes that are due are walked as `judge` walks all, so contexts of a package share here too
-- what they ask.
use Rattle.std.specs.Prelude.{◌≡◌, ℕ, ◌+◌, ◌≤◌, ◌||◌, List, ◌++◌, length, filter, filter_map}
use Rattle.std.specs.List.{AllByRecursion}
use Rattle.gv_base.specs.Counts.{Counts}
use Rattle.gv_report.specs.Distinct.{ordered}
use Rattle.gv_report.specs.declared.options.Options.{Options}
use Rattle.gv_report.specs.declared.report.Report.{Report}
use Rattle.gv_load.specs.declared.loading.Repo.{Repo}
use Rattle.gv_plain.specs.Cases.{members}
use Rattle.gv_checks.specs.Limits.{IsWithin}
use Rattle.gv_checks.specs.Queries.{Query, queries}
use Rattle.gv_renew.specs.Renewal.{fresh_reports, is_due, is_lasting}
use Rattle.gv_checks.specs.RepoReports.{query_report}
use Rattle.gv_checks.specs.declared.chosen.ClassSet.{ClassSet}
use Rattle.gv_renew.specs.declared.touched.Touched.{Touched}

-- the classes of a package whose queries are due: all where its entry is edited
abbrev pub due_set : Touched → ClassSet
due_set t = record {
  required = t.edited;
  depend = t.edited || t.depend;
  bdepend = t.edited || t.bdepend;
  rdepend = t.edited || t.rdepend;
  pdepend = t.edited || t.pdepend;
  idepend = t.edited || t.idepend;
}

-- Queries that are answered: each is within the limits and was lowered and solved at most once, and these are their reports.
pub record AreAnswered (qs : List Query) (before now : Counts) (reports : List Report) : Type 0 where
  pub within : AllByRecursion IsWithin qs
  pub reports_are : reports ≡ filter_map query_report qs
  pub lowered : now.lower ≤ before.lower + length qs
  pub solved : now.solve ≤ before.solve + length qs

-- What renewing comes to: the reports of before that aren't stale, with those told anew behind them, in order; and what was
-- lowered and solved.
pub record IsRenewedHere (o : Options) (paths : List (List ℕ)) (repo : Repo) (old : List Report) (before now : Counts) (reports : List Report) : Type 0 where
  pub reports_are : reports ≡ ordered (filter (is_lasting paths (members repo)) old ++ fresh_reports o paths repo)
  pub within : AllByRecursion IsWithin (filter (is_due paths) (queries o repo))
  pub lowered : now.lower ≤ before.lower + length (filter (is_due paths) (queries o repo))
  pub solved : now.solve ≤ before.solve + length (filter (is_due paths) (queries o repo))
