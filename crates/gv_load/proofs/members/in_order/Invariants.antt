use Rattle.std.proofs.Common.{◌≡◌, []}
use Rattle.std.specs.Vec.Iter.{into_iter_items}
use Rattle.gv_load.specs.Members.{with_all}
use Rattle.gv_load.proofs.members.in_order.Given as goal

abbrev pub invariant-loop-kept : goal.invariant-loop-kept
invariant-loop-kept l = with_all l.members.keys (into_iter_items l.kept-iterator) ≡ with_all [] l.fn.kepts
