use Rattle.gv_reload.proofs.JoinedLemmas.{none}
use Rattle.gv_reload.proofs.joined.Joined.new.Goals as goal

pub invariant_of-result : goal.invariant_of-result
invariant_of-result c = rw c.new.ensures (none c.new-2.result.entries c.new-2.ensures.empty)
