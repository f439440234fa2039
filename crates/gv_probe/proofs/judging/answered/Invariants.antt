use Rattle.std.specs.List.{AllByRecursion}
use Rattle.gv_checks.specs.Named.{HasNamed}
use Rattle.gv_probe.proofs.judging.answered.Given as goal

abbrev pub invariant-loop-name : goal.invariant-loop-name
invariant-loop-name g l = AllByRecursion (HasNamed l.options l.repo) l.name-items
