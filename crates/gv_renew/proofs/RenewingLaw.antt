-- Reports of which some are told anew are in order the reports of now.
use Rattle.std.proofs.Common.{◌≡◌, Bool, true, false, cond, List, [], ◌∷◌, ◌++◌, refl, sym, ap, ◌∙◌, true≢false}
use Rattle.std.specs.Prelude.{not, ◌&&◌}
use Rattle.std.specs.declared.cmp.Ordering.{Ordering}
use Rattle.std.specs.declared.cmp.Ordering.TheVariants.{Less, Equal, Greater}
use Rattle.std.specs.List.{filter, AllByRecursion}
use Rattle.std.specs.List.Sorted.{ties}
use Rattle.std.specs.Ordering.{is_eq, is_lt, ordering_reverse}
use Rattle.std.proofs.lemmas.List.{append-nil}
use Rattle.std.proofs.lemmas.List.Elements.{filter-append}
use Rattle.gv_report.specs.declared.report.Report.{Report}
use Rattle.gv_report.specs.Distinct.{is_before, firsts, ordered}
use Rattle.gv_report.specs.Order.{report_cmp}
use Rattle.gv_report.specs.OrderTotal.{report_total}
use Rattle.gv_renew.specs.Renewing.{is_tied, FollowsOrder, RenewedLaw}
use Rattle.gv_report.specs.FirstReports.{filter_alike, filter_both}
use Rattle.gv_report.specs.OrderedLaw.{ranks}
use Rattle.gv_report.specs.SelectedLaw.{picked}
use Rattle.gv_report.specs.SortLemmas.{ascends, one}
use Rattle.gv_report.specs.StrictLaw.{again}

-- Of two reports that the order doesn't tell apart neither is before the other.
pub ties_tied : (r s : Report) → ties is_before r s ≡ is_tied r s
ties_tied r s = ap (λ o. not (is_lt (report_cmp r s)) && not (is_lt o)) (report_total.antisymm s r) ∙ by (report_cmp r s)
  where
    by : (o : Ordering) → (not (is_lt o) && not (is_lt (ordering_reverse o))) ≡ is_eq o
    by Less = refl
    by Equal = refl
    by Greater = refl

-- Lists are in order the same list when they are so for each class of tied reports.
pub by_classes : (rs ss : List Report) → ((r : Report) → ordered (filter (is_tied r) rs) ≡ ordered (filter (is_tied r) ss)) → ordered rs ≡ ordered ss
by_classes rs ss same = one ranks (ordered ss) (ordered rs) (ascends ranks (firsts ss)) (ascends ranks (firsts rs)) class
  where
    class : (r : Report) → filter (ties is_before r) (ordered rs) ≡ filter (ties is_before r) (ordered ss)
    class r =
        filter_alike (ties is_before r) (is_tied r) (ties_tied r) (ordered rs) ∙ picked (is_tied r) rs ∙ same r ∙ sym (picked (is_tied r) ss)
        ∙ sym (filter_alike (ties is_before r) (is_tied r) (ties_tied r) (ordered ss))

none_picked : (rs : List Report) → filter (λ r. false) rs ≡ []
none_picked [] = refl
none_picked (r ∷ rs) = none_picked rs

module _ (is_stale : Report → Bool) (follows : FollowsOrder is_stale) where
  -- what ties with a report that isn't stale isn't stale
  stale_none : (r s : Report) → is_stale r ≡ true → (not (is_stale s) && is_tied r s) ≡ false
  stale_none r s stale = by (is_tied r s) (is_stale s) refl refl
    where
      by : (tied other : Bool) → is_tied r s ≡ tied → is_stale s ≡ other → (not other && tied) ≡ false
      by tied true e f = refl
      by false false e f = refl
      by true false e f = sym stale ∙ follows r s e ∙ f

  kept_all : (r s : Report) → is_stale r ≡ false → (not (is_stale s) && is_tied r s) ≡ is_tied r s
  kept_all r s kept = by (is_tied r s) (is_stale s) refl refl
    where
      by : (tied other : Bool) → is_tied r s ≡ tied → is_stale s ≡ other → (not other && tied) ≡ tied
      by tied false e f = refl
      by false true e f = refl
      by true true e f = sym kept ∙ follows r s e ∙ f

  none_fresh : (r : Report) (fresh : List Report) → is_stale r ≡ false → AllByRecursion (λ s. is_stale s ≡ true) fresh → filter (is_tied r) fresh ≡ []
  none_fresh r [] kept all = refl
  none_fresh r (s ∷ fresh) kept all = by (is_tied r s) refl (none_fresh r fresh kept all.1)
    where
      by : (tied : Bool) → is_tied r s ≡ tied → filter (is_tied r) fresh ≡ [] → cond tied (s ∷ filter (is_tied r) fresh) (filter (is_tied r) fresh) ≡ []
      by true e h = absurd (true≢false (sym all.0 ∙ sym (follows r s e) ∙ kept))
      by false e h = h

  kept_class : (r : Report) (rs : List Report) → is_stale r ≡ false → filter (is_tied r) (filter (λ s. not (is_stale s)) rs) ≡ filter (is_tied r) rs
  kept_class r rs kept = filter_both (is_tied r) (λ s. not (is_stale s)) rs ∙ filter_alike (λ s. not (is_stale s) && is_tied r s) (is_tied r) (λ s. kept_all r s kept) rs

  stale_class : (r : Report) (rs : List Report) → is_stale r ≡ true → filter (is_tied r) (filter (λ s. not (is_stale s)) rs) ≡ []
  stale_class r rs stale =
      filter_both (is_tied r) (λ s. not (is_stale s)) rs ∙ filter_alike (λ s. not (is_stale s) && is_tied r s) (λ s. false) (λ s. stale_none r s stale) rs ∙ none_picked rs

  module _ (old now fresh : List Report)
      (kept : (r : Report) → is_stale r ≡ false → filter (is_tied r) old ≡ filter (is_tied r) now)
      (anew : (r : Report) → is_stale r ≡ true → filter (is_tied r) fresh ≡ filter (is_tied r) now)
      (all : AllByRecursion (λ r. is_stale r ≡ true) fresh) where
    parts : (r : Report) → filter (is_tied r) (filter (λ s. not (is_stale s)) (ordered old) ++ fresh) ≡ filter (is_tied r) (filter (λ s. not (is_stale s)) (ordered old)) ++ filter (is_tied r) fresh
    parts r = filter-append (is_tied r) (filter (λ s. not (is_stale s)) (ordered old)) fresh

    class : (r : Report) → ordered (filter (is_tied r) (filter (λ s. not (is_stale s)) (ordered old) ++ fresh)) ≡ ordered (filter (is_tied r) now)
    class r = by (is_stale r) refl
      where
        by : (b : Bool) → is_stale r ≡ b → ordered (filter (is_tied r) (filter (λ s. not (is_stale s)) (ordered old) ++ fresh)) ≡ ordered (filter (is_tied r) now)
        by true e = ap ordered (parts r ∙ ap (λ l. l ++ filter (is_tied r) fresh) (stale_class r (ordered old) e) ∙ anew r e)
        by false e =
            ap ordered (parts r ∙ ap (λ l. filter (is_tied r) (filter (λ s. not (is_stale s)) (ordered old)) ++ l) (none_fresh r fresh e all)
            ∙ append-nil (filter (is_tied r) (filter (λ s. not (is_stale s)) (ordered old))) ∙ kept_class r (ordered old) e ∙ picked (is_tied r) old ∙ ap ordered (kept r e))
            ∙ again (filter (is_tied r) now)

pub renewed : RenewedLaw
renewed is_stale follows old now fresh kept anew all = by_classes (filter (λ r. not (is_stale r)) (ordered old) ++ fresh) now (class is_stale follows old now fresh kept anew all)
