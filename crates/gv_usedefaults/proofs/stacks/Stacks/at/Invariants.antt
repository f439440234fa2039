use Rattle.std.proofs.Common.{◌≡◌, drop}
use Rattle.gv_usedefaults.specs.Walk.{stack_at}
use Rattle.gv_usedefaults.proofs.stacks.Stacks.at.Given as goal

abbrev pub invariant-loop-stack : goal.invariant-loop-stack
invariant-loop-stack l = stack_at (drop l.stack-index l.self) l.line ≡ stack_at l.self l.line
