use Rattle.std.proofs.Common.{◌≡◌, ◌++◌, length}
use Rattle.std.specs.Vec.Iter.{into_iter_items, into_iter_len}
use Rattle.gv_renew.specs.Exchanging.{between}
use Rattle.gv_renew.proofs.exchanging.take_out.Given as goal

abbrev pub invariant-loop-report : goal.invariant-loop-report
invariant-loop-report l =
    (goal.iterator-loop-report).can_next l.report-iterator ×
    (goal.iterator-loop-report).is_finite l.report-iterator ×
    (into_iter_len l.report-iterator ≡ length (into_iter_items l.report-iterator)) ×
    (l.taken.items ++ into_iter_items l.report-iterator ≡ between l.first l.end l.fn.items.items)
