use Rattle.std.proofs.Common.{◌≡◌, ◌++◌, length, map}
use Rattle.std.specs.Prelude.{reverse}
use Rattle.gv_usedefaults.specs.declared.stack_walk.Ahead.TheVariants.{Come}
use Rattle.gv_usedefaults.proofs.stack_walk.push_coming.Given as goal

abbrev pub invariant-loop-dir : goal.invariant-loop-dir
invariant-loop-dir l = l.ahead.items ++ reverse (map Come l.paths.items) ≡ l.fn.ahead.items ++ reverse (map Come l.fn.paths.items)

abbrev pub decreases-loop-dir : goal.decreases-loop-dir
decreases-loop-dir l = length l.paths.items
