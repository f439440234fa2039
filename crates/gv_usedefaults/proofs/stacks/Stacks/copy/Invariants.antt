use Rattle.std.proofs.Common.{◌≡◌, take}
use Rattle.gv_usedefaults.proofs.stacks.Stacks.copy.Given as goal

abbrev pub invariant-loop-item : goal.invariant-loop-item
invariant-loop-item l = l.stacks ≡ take l.item-index l.self
