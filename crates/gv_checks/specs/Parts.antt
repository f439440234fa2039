-- The selected reports of a repository, in the parts in which they are found.
use Rattle.std.specs.Prelude.{◌≡◌, ◌++◌, filter, filter_map, flat_map}
use Rattle.gv_report.specs.Selecting.{selected}
use Rattle.gv_report.specs.declared.options.Options.{Options}
use Rattle.gv_load.specs.declared.loading.Repo.{Repo}
use Rattle.gv_plain.specs.Cases.{members}
use Rattle.gv_plain.specs.Plain.{told_member}
use Rattle.gv_checks.specs.Queries.{queries}
use Rattle.gv_checks.specs.RepoReports.{query_report, reports}

-- The selected reports of a repository are the selected notes, what is told of each package, and the reports of the queries that are
-- asked.
abbrev pub PartsLaw : Type 0
PartsLaw = (o : Options) (repo : Repo)
    → filter (selected o) (reports repo) ≡ (filter (selected o) repo.notes ++ flat_map (told_member o repo) (members repo)) ++ filter_map query_report (queries o repo)
