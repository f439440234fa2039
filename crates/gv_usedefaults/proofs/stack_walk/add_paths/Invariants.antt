use Rattle.std.proofs.Common.{◌≡◌, ◌++◌, drop}
use Rattle.gv_usedefaults.proofs.stack_walk.add_paths.Given as goal

abbrev pub invariant-loop-path : goal.invariant-loop-path
invariant-loop-path l = l.paths.items ++ drop l.path-index l.more ≡ l.fn.paths.items ++ l.more
