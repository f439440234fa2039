-- What an overlay's packages are reported as: they are judged among all packages of the combined repository.
use Rattle.std.specs.Prelude.{ℕ, List, ◌++◌, filter, Result, Ok, Err}
use Rattle.gv_base.specs.Counts.{Counts}
use Rattle.gv_cert.specs.Known.{KnownRecord}
use Rattle.gv_report.specs.Distinct.{ordered}
use Rattle.gv_report.specs.Emitted.{reports_text}
use Rattle.gv_report.specs.Selecting.{selected}
use Rattle.gv_report.specs.declared.options.Options.{Options}
use Rattle.gv_report.specs.declared.report.Report.{Report}
use Rattle.gv_checks.specs.Answered.{AreJudged}
use Rattle.gv_checks.specs.Limits.{RefusesFirst}
use Rattle.gv_checks.specs.Queries.{Query}
use Rattle.gv_checks.specs.SomePackages.{queries_on, reports_on}
use Rattle.gv_checks.specs.declared.fault.JudgeFault.{JudgeFault}
use Rattle.gv_checks.specs.declared.whole.Judged.{Judged}
use Rattle.gv_overlay.specs.declared.overlay.Overlay.{Overlay}

-- the queries of the overlay's packages
abbrev pub overlay_queries : Options → Overlay → List Query
overlay_queries options over = queries_on over.own options over.repo

-- what is told of its entries, and the reports of its packages
abbrev pub overlay_reports : Overlay → List Report
overlay_reports over = over.notes ++ reports_on over.own over.repo

-- those that the options select, in order, equal ones once; and their text
abbrev pub own_reports : Options → Overlay → List Report
own_reports options over = ordered (filter (selected options) (overlay_reports over))

abbrev pub overlay_text : Options → Overlay → List ℕ
overlay_text options over = reports_text options.json (own_reports options over)

-- judging answers these, with the certificates of these queries, or the first of them that is refused
abbrev pub IsOwnJudged : Options → (given : List KnownRecord) → Overlay → (before now : Counts) → Judged → Type 0
IsOwnJudged options given over before now j = AreJudged options.budget given (overlay_queries options over) (own_reports options over) before now j

abbrev pub JudgesOwn : Options → (given : List KnownRecord) → Overlay → (before now : Counts) → Result Judged JudgeFault → Type 0
JudgesOwn options given over before now (Ok j) = IsOwnJudged options given over before now j
JudgesOwn options given over before now (Err fault) = RefusesFirst options.budget given (overlay_queries options over) fault
