use Rattle.std.proofs.Common.{rules}
use Rattle.std.specs.Cmp.{IsStrictWeakOrder}
use Rattle.std.proofs.lemmas.List.Sorted.{answers_always, ranks_by}
use Rattle.gv_load.specs.MemberOrder.{member_total}
use Rattle.gv_overlay.specs.declared.combining.Entry.{Entry}
use Rattle.gv_overlay.specs.Combined.{comes_before}
use Rattle.gv_overlay.proofs.combining.in_package_order.Goals as goal

ranks : IsStrictWeakOrder comes_before
ranks = ranks_by member_total (λ (e : Entry). e.member)

pub returns : goal.returns
returns c = record {
  ascending = c.in_ok-sort_by.ensures.sorted comes_before ranks (answers_always _ _ _ (λ f a r g h. search rules));
  stable = c.in_ok-sort_by.ensures.stable comes_before ranks (answers_always _ _ _ (λ f a r g h. search rules));
}
