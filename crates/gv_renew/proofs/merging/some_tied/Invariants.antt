use Rattle.std.proofs.Common.{◌≡◌, drop}
use Rattle.gv_renew.specs.Merging.{some_tied}
use Rattle.gv_renew.proofs.merging.some_tied.Given as goal

abbrev pub invariant-loop-report : goal.invariant-loop-report
invariant-loop-report l = some_tied l.kept (drop l.report-index l.fresh) ≡ some_tied l.kept l.fresh
