use Rattle.std.proofs.Common.{◌≡◌, [], ap, sym, ◌∙◌, rules}
use Rattle.std.specs.List.Sorted.{IsSortedBy}
use Rattle.std.proofs.lemmas.List.Sorted.{answers_always}
use Rattle.gv_report.specs.Marks.{are_new, marked}
use Rattle.gv_report.specs.Distinct.{is_before}
use Rattle.gv_report.specs.Sorting.{in_order, TiesStay}
use Rattle.gv_report.specs.OrderedLaw.{ranks}
use Rattle.gv_report.specs.SortLemmas.{sorted_is}
use Rattle.gv_report.specs.StrictLaw.{marked_ordered, strict_ordered}
use Rattle.gv_report.proofs.distinct.ordered.Goals as goal

pub returns-then-are_strict : goal.returns-then-are_strict
returns-then-are_strict c =
    let items = c.into_items-items.result.items in
    let sorted = c.sort_by.new.self.items in
    let up : IsSortedBy is_before sorted = c.in_ok-sort_by.ensures.sorted is_before ranks (answers_always _ _ _ (λ f a r g h. search rules)) in
    let stay : TiesStay is_before items sorted = c.in_ok-sort_by.ensures.stable is_before ranks (answers_always _ _ _ (λ f a r g h. search rules)) in
    c.of.ensures
    ∙ strict_ordered c.args.reports sorted (sorted_is ranks items sorted up stay ∙ ap (in_order is_before) c.into_items-items.ensures) (rw (sym c.deref.ensures.value) (sym c.are_strict.ensures ∙ c.if-are_strict.true))

pub returns : goal.returns
returns c =
    let items = c.into_items-items.result.items in
    let sorted = c.sort_by.new.self.items in
    let up : IsSortedBy is_before sorted = c.in_ok-sort_by.ensures.sorted is_before ranks (answers_always _ _ _ (λ f a r g h. search rules)) in
    let stay : TiesStay is_before items sorted = c.in_ok-sort_by.ensures.stable is_before ranks (answers_always _ _ _ (λ f a r g h. search rules)) in
    let marks : c.in_ok-marks.marks.items ≡ are_new [] sorted = c.in_ok-marks.ensures ∙ ap (are_new []) c.deref-2.ensures.value in
    c.of-2.ensures
    ∙ marked_ordered c.args.reports sorted c.in_ok-kept.kept.items (sorted_is ranks items sorted up stay ∙ ap (in_order is_before) c.into_items-items.ensures)
    (c.in_ok-kept.ensures ∙ ap (λ ms. marked ms sorted) (c.deref-3.ensures.value ∙ marks))
