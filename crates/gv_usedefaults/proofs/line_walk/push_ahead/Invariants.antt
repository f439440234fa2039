use Rattle.std.proofs.Common.{◌≡◌, ◌++◌, length}
use Rattle.std.specs.Prelude.{reverse}
use Rattle.gv_usedefaults.proofs.line_walk.push_ahead.Given as goal

abbrev pub invariant-loop-path : goal.invariant-loop-path
invariant-loop-path l = l.ahead.items ++ reverse l.paths.items ≡ l.fn.ahead.items ++ reverse l.fn.paths.items

abbrev pub decreases-loop-path : goal.decreases-loop-path
decreases-loop-path l = length l.paths.items
