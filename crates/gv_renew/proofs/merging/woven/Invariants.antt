use Rattle.std.proofs.Common.{◌≡◌, ◌++◌, length}
use Rattle.std.specs.Vec.Iter.{into_iter_items, into_iter_len}
use Rattle.gv_report.specs.Distinct.{is_before}
use Rattle.gv_renew.specs.Merging.{woven}
use Rattle.gv_report.specs.Sorting.{AreAscending}
use Rattle.gv_renew.proofs.merging.woven.Given as goal

abbrev pub invariant-loop-report : goal.invariant-loop-report
invariant-loop-report l =
    (goal.iterator-loop-report).can_next l.report-iterator ×
    (goal.iterator-loop-report).is_finite l.report-iterator ×
    (into_iter_len l.report-iterator ≡ length (into_iter_items l.report-iterator)) ×
    AreAscending is_before l.rest.items ×
    (l.all.items ++ woven l.rest.items (into_iter_items l.report-iterator) ≡ woven l.fn.kept.items l.fn.fresh.items)
