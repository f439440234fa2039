use Rattle.std.proofs.Common.{◌<◌, take}
use Rattle.std.specs.List.{AllByRecursion}
use Rattle.gv_probe.proofs.cert.are_below.Given as goal

abbrev pub invariant-loop-hint : goal.invariant-loop-hint
invariant-loop-hint l = AllByRecursion (λ hint. hint < l.names) (take l.hint-index l.hints)
