use Rattle.std.proofs.Common.{◌≡◌, ◌++◌, drop, filter}
use Rattle.gv_report.specs.Selecting.{selected}
use Rattle.gv_plain.proofs.plainly.add_selected.Given as goal

abbrev pub invariant-loop-report : goal.invariant-loop-report
invariant-loop-report l = l.reports ++ filter (selected l.options) (drop l.report-index l.others) ≡ l.initial.reports ++ filter (selected l.options) l.others
