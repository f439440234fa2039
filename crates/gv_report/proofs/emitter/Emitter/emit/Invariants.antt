use Rattle.std.proofs.Common.{◌≡◌, ◌++◌, drop}
use Rattle.gv_report.specs.Emitted.{emitted}
use Rattle.gv_report.specs.Emitter.{options_of}
use Rattle.gv_report.proofs.emitter.Emitter.emit.Given as goal

abbrev pub invariant-loop-report : goal.invariant-loop-report
invariant-loop-report g l = l.text ++ emitted (options_of l.self) (drop l.report-index l.reports) ≡ emitted (options_of l.self) l.reports
