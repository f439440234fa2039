use Rattle.std.proofs.Common.{◌*◌, ◌<◌, take}
use Rattle.std.specs.List.{AllByRecursion}
use Rattle.gv_probe.proofs.logic.are_within.Given as goal

abbrev pub invariant-loop-lit : goal.invariant-loop-lit
invariant-loop-lit l = AllByRecursion (λ lit. lit < 2 * l.variables) (take l.lit-index l.lits)
