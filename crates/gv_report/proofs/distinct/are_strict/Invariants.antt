use Rattle.std.proofs.Common.{◌≡◌, drop}
use Rattle.gv_report.specs.Marks.{are_strict, strict_behind}
use Rattle.gv_report.proofs.distinct.are_strict.Given as goal

abbrev pub invariant-loop-report : goal.invariant-loop-report
invariant-loop-report l = strict_behind l.last (drop l.report-index l.rest) ≡ are_strict l.reports
