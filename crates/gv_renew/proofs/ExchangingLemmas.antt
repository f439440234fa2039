-- Reports in order of which those at places are exchanged for others.
use Rattle.std.proofs.Common.{◌≡◌, ℕ, ◌+◌, ◌-◌, Bool, List, ◌++◌, take, drop, sym, ap, subst, ◌∙◌, arith}
use Rattle.std.specs.Prelude.{Result, Ok, Err, IfOk, not}
use Rattle.std.specs.List.{filter}
use Rattle.std.proofs.lemmas.List.{take-append-drop}
use Rattle.gv_facts.specs.Places.{places_from}
use Rattle.gv_report.specs.declared.report.Report.{Report}
use Rattle.gv_report.specs.Distinct.{is_before, ordered}
use Rattle.gv_renew.specs.Exchanging.{IsWindow, at_places, between, from_place, without}
use Rattle.gv_renew.specs.declared.exchanging.Window.{Window}
use Rattle.gv_renew.specs.Renewing.{FollowsOrder}
use Rattle.gv_report.specs.Sorting.{AreAscending}
use Rattle.gv_report.specs.OrderedLaw.{are_in_order}
use Rattle.gv_report.specs.SelectedLaw.{picked}
use Rattle.gv_renew.proofs.PlaceLemmas.{at_all, kept_of, later_places}
use Rattle.gv_renew.proofs.WindowLemmas.{in_window, kept_ordered}

pub result_is : {E : Type 0} (r : Result (List Report) E) (a b : List Report) → a ≡ b → IfOk r (λ x. x ≡ a) → IfOk r (λ x. x ≡ b)
result_is (Ok x) a b e is = is ∙ e
result_is (Err f) a b e is = tt

module _ (is_stale : Report → Bool) (follows : FollowsOrder is_stale) (before : List Report) (order : ordered before ≡ before)
    (places : List ℕ) (are : places ≡ places_from 0 is_stale before) where
  stale_is : at_places before places ≡ filter is_stale before
  stale_is = ap (at_places before) are ∙ at_all is_stale before

  pub stale_ascends : AreAscending is_before (at_places before places)
  stale_ascends = subst (AreAscending is_before) (sym (stale_is ∙ ap (filter is_stale) (sym order) ∙ picked is_stale before)) (are_in_order (filter is_stale before)).ascending

  module _ (fresh : List Report) (w : Window) (is : IsWindow before (at_places before places) fresh w) where
    abbrev kept_there : List Report
    kept_there = without w.first (from_place w.first places) (between w.first w.end before)

    later_are : from_place w.first places ≡ places_from w.first is_stale (drop w.first before)
    later_are = ap (from_place w.first) are
        ∙ subst (λ k. from_place k (places_from 0 is_stale before)
        ≡ places_from k is_stale (drop w.first before)) {x = w.first + 0} {y = w.first} (omega arith) (later_places is_stale w.first 0 before)

    kept_is : kept_there ≡ filter (λ r. not (is_stale r)) (filter is.early (filter (λ r. not (is.ahead r)) before))
    kept_is =
        let rest = drop w.first before in
        let count = w.end - w.first in
        ap (λ ks. without w.first ks (take count rest)) (later_are ∙ ap (places_from w.first is_stale) (sym (take-append-drop count rest)))
        ∙ kept_of is_stale w.first (take count rest) (drop count rest) ∙ ap (filter (λ r. not (is_stale r))) is.middle

    same_before : filter is.ahead fresh ≡ filter is.ahead (filter is_stale before)
    same_before = is.same_ahead ∙ ap (filter is.ahead) stale_is

    same_after : filter (λ r. not (is.early r)) fresh ≡ filter (λ r. not (is.early r)) (filter is_stale before)
    same_after = is.same_behind ∙ ap (filter (λ r. not (is.early r))) stale_is

    kept_ascends : ordered kept_there ≡ kept_there
    kept_ascends =
        ap ordered kept_is ∙ kept_ordered is_stale follows before fresh order is.ahead is.early is.ahead_closed is.early_closed same_before same_after ∙ sym kept_is

    together : take w.first before ++ (ordered (kept_there ++ between w.fresh_first w.fresh_end fresh) ++ drop w.end before)
        ≡ ordered (filter (λ r. not (is_stale r)) before ++ fresh)
    together =
        ap (λ l. l ++ (ordered (kept_there ++ between w.fresh_first w.fresh_end fresh) ++ drop w.end before)) is.front
        ∙ ap (λ l. filter is.ahead before ++ (ordered (l ++ between w.fresh_first w.fresh_end fresh) ++ drop w.end before)) kept_is
        ∙ ap (λ l. filter is.ahead before ++ (ordered (filter (λ r. not (is_stale r)) (filter is.early (filter (λ r. not (is.ahead r)) before)) ++ l) ++ drop w.end before)) is.fresh_middle
        ∙ ap (λ l. filter is.ahead before
        ++ (ordered (filter (λ r. not (is_stale r)) (filter is.early (filter (λ r. not (is.ahead r)) before)) ++ filter is.early (filter (λ r. not (is.ahead r)) fresh)) ++ l)) is.back
        ∙ sym (in_window is_stale follows before fresh order is.ahead is.early is.ahead_closed is.early_closed same_before same_after)

    module _ (items told : List Report) (later : List ℕ) (items_are : items ≡ before) (told_are : told ≡ fresh) (later_is : later ≡ from_place w.first places) where
      pub kept_in_order : ordered (without w.first later (between w.first w.end items)) ≡ without w.first later (between w.first w.end items)
      kept_in_order = rw (items_are, later_is) kept_ascends

      pub put_together : take w.first items ++ (ordered (without w.first later (between w.first w.end items) ++ between w.fresh_first w.fresh_end told) ++ drop w.end items)
          ≡ ordered (filter (λ r. not (is_stale r)) before ++ fresh)
      put_together = rw (items_are, told_are, later_is) together
