use Rattle.std.proofs.Common.{◌≡◌, take}
use Rattle.gv_load.proofs.members.Bodies.copy.Given as goal

abbrev pub invariant-loop-item : goal.invariant-loop-item
invariant-loop-item l = l.bodies ≡ take l.item-index l.self
