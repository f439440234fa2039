use Rattle.std.proofs.Common.{◌≡◌, [], ◌++◌, take, drop}
use Rattle.gv_report.specs.Marks.{are_new}
use Rattle.gv_report.specs.FirstReports.{HasSeen}
use Rattle.gv_report.proofs.distinct.are_new.Given as goal

abbrev pub invariant-loop-report : goal.invariant-loop-report
invariant-loop-report l = record {
  marks : l.marks.items ++ are_new (take l.report-index l.reports) (drop l.report-index l.reports) ≡ are_new [] l.reports;
  seen : HasSeen l.seen.keys (take l.report-index l.reports);
}
