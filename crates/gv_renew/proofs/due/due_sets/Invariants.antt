use Rattle.std.proofs.Common.{◌≡◌, ◌++◌, drop, map}
use Rattle.gv_renew.specs.Due.{due_set}
use Rattle.gv_renew.proofs.due.due_sets.Given as goal

abbrev pub invariant-loop-one : goal.invariant-loop-one
invariant-loop-one l = l.sets.items ++ map due_set (drop l.one-index l.touched) ≡ map due_set l.touched
