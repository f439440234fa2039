use Rattle.std.proofs.Common.{ap, filter, not, refl, subst, ◌∙◌}
use Rattle.gv_report.specs.Distinct.{ordered}
use Rattle.gv_renew.specs.Exchanging.{IsWindow, at_places, from_place}
use Rattle.gv_renew.proofs.ExchangingLemmas.{kept_in_order, put_together, result_is, stale_ascends}
use Rattle.gv_renew.proofs.Weaving.{ordered_behind}
use Rattle.gv_renew.proofs.exchanging.exchanged.Goals as goal

pub window_at-requires-clause-stale : goal.window_at-requires-clause-stale
window_at-requires-clause-stale c = rw (c.deref.ensures.value, c.deref-2.ensures.value, c.into_items-items.ensures)
    (stale_ascends c.requires.places.0 c.requires.places.1.0
    c.args.before c.requires.order c.args.stale.items c.requires.places.1.1)

pub put_between-requires-clause-kept : goal.put_between-requires-clause-kept
put_between-requires-clause-kept c =
    let before = c.args.before in
    let w = c.in_ok-window.window in
    let fresh = c.into_items-fresh.result.items in
    let first = subst (λ b. IsWindow b (at_places b c.deref-2.result.now) c.deref-3.result.now w) (c.deref.ensures.value
    ∙ c.into_items-items.ensures) c.in_ok-window.ensures.window in
    let second = subst (λ k. IsWindow before (at_places before k) c.deref-3.result.now w) c.deref-2.ensures.value first in
    let is = subst (λ f. IsWindow before (at_places before c.args.stale.items) f w) c.deref-3.ensures.value second in
    kept_in_order c.requires.places.0 c.requires.places.1.0
    before c.requires.order c.args.stale.items c.requires.places.1.1 fresh w is c.into_items-items.result.items fresh c.deref-5.result.now
    c.into_items-items.ensures refl (c.deref-5.ensures.value ∙ c.in_ok-places.ensures ∙ ap (from_place w.first) c.deref-4.ensures.value)

pub returns : goal.returns
returns c = λ is_stale follows are.
    let before = c.args.before in
    let w = c.in_ok-window.window in
    let told = ordered c.args.told in
    let first = subst (λ b. IsWindow b (at_places b c.deref-2.result.now) c.deref-3.result.now w) (c.deref.ensures.value
    ∙ c.into_items-items.ensures) c.in_ok-window.ensures.window in
    let second = subst (λ k. IsWindow before (at_places before k) c.deref-3.result.now w) c.deref-2.ensures.value first in
    let fresh_is = c.into_items-fresh.ensures ∙ c.in_ok-ordered.ensures in
    let is = subst (λ f. IsWindow before (at_places before c.args.stale.items) f w) (c.deref-3.ensures.value ∙ fresh_is) second in
    result_is c.put_between.result _ _
    (put_together is_stale follows before c.requires.order c.args.stale.items are told w is c.into_items-items.result.items c.into_items-fresh.result.items
    c.deref-5.result.now c.into_items-items.ensures fresh_is (c.deref-5.ensures.value ∙ c.in_ok-places.ensures ∙ ap (from_place w.first) c.deref-4.ensures.value)
    ∙ ordered_behind (filter (λ r. not (is_stale r)) before) c.args.told)
    c.put_between.ensures
