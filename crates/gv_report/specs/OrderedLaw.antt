-- A proof and no rule. Reports in order are the reports that were given, each once, ascending, with ties as given; and no other list is.
use Rattle.std.proofs.Common.{◌≡◌, Bool, true, false, cond, List, [], ◌∷◌, refl, sym, ap, ◌∙◌}
use Rattle.std.specs.Prelude.{not, ◌||◌, if◌then◌else◌}
use Rattle.std.specs.Cmp.{IsStrictWeakOrder}
use Rattle.std.specs.List.{filter, list_any}
use Rattle.std.proofs.lemmas.Bool.{or_parts}
use Rattle.std.proofs.lemmas.List.Sorted.{ranks_by}
use Rattle.std.proofs.Math.Bool.{or-true}
use Rattle.gv_report.specs.declared.report.Report.{Report}
use Rattle.gv_report.specs.Distinct.{is_before, is_same, has_report, firsts, ordered, AreDistinct, AreInOrder}
use Rattle.gv_report.specs.OrderTotal.{report_total}
use Rattle.gv_report.specs.Sorting.{put_in, in_order}
use Rattle.gv_report.specs.FirstReports.{equivalence}
use Rattle.gv_report.specs.SameReports.{same_report}
use Rattle.gv_report.specs.SortLemmas.{ascends, ties_stay, one}

pub ranks : IsStrictWeakOrder is_before
ranks = ranks_by report_total (λ (r : Report). r)

swapped : (a b c : Bool) → (a || (b || c)) ≡ (b || (a || c))
swapped true b c = sym (or-true b)
swapped false b c = refl

any_put : (p : Report → Bool) (x : Report) (ys : List Report) → list_any p (put_in is_before x ys) ≡ (p x || list_any p ys)
any_put p x [] = refl
any_put p x (y ∷ ys) = by (is_before y x) (any_put p x ys)
  where
    by : (b : Bool) → list_any p (put_in is_before x ys) ≡ (p x || list_any p ys) → list_any p (if b then y ∷ put_in is_before x ys else x ∷ y ∷ ys) ≡ (p x || (p y || list_any p ys))
    by true h = ap (λ b. p y || b) h ∙ swapped (p y) (p x) (list_any p ys)
    by false h = refl

any_sorted : (p : Report → Bool) (xs : List Report) → list_any p (in_order is_before xs) ≡ list_any p xs
any_sorted p [] = refl
any_sorted p (x ∷ xs) = any_put p x (in_order is_before xs) ∙ ap (λ b. p x || b) (any_sorted p xs)

other : (q r s : Report) → is_same q r ≡ false → is_same r s ≡ true → is_same q s ≡ false
other q r s apart same = equivalence.symm q s ∙ sym (equivalence.congr r s q same) ∙ equivalence.symm r q ∙ apart

kept : (r q : Report) → is_same q r ≡ false → (l : List Report) → has_report (filter (λ s. not (is_same r s)) l) q ≡ has_report l q
kept r q apart [] = refl
kept r q apart (s ∷ l) = by (is_same r s) refl (kept r q apart l)
  where
    by : (b : Bool) → is_same r s ≡ b → has_report (filter (λ t. not (is_same r t)) l) q ≡ has_report l q
        → has_report (cond (not b) (s ∷ filter (λ t. not (is_same r t)) l) (filter (λ t. not (is_same r t)) l)) q ≡ (is_same q s || has_report l q)
    by true e h = h ∙ sym (ap (λ b. b || has_report l q) (other q r s apart e))
    by false e h = ap (λ b. is_same q s || b) h

has_firsts : (rs : List Report) (q : Report) → has_report (firsts rs) q ≡ has_report rs q
has_firsts [] q = refl
has_firsts (r ∷ rs) q = by (is_same q r) refl (has_firsts rs q)
  where
    by : (b : Bool) → is_same q r ≡ b → has_report (firsts rs) q ≡ has_report rs q → (b || has_report (filter (λ s. not (is_same r s)) (firsts rs)) q) ≡ (b || has_report rs q)
    by true e h = refl
    by false e h = kept r q e (firsts rs) ∙ h

none_kept : (t p : Report → Bool) (l : List Report) → list_any t l ≡ false → list_any t (filter p l) ≡ false
none_kept t p [] h = refl
none_kept t p (s ∷ l) h = by (p s) (none_kept t p l (or_parts (t s) (list_any t l) h).1)
  where
    by : (b : Bool) → list_any t (filter p l) ≡ false → list_any t (cond b (s ∷ filter p l) (filter p l)) ≡ false
    by true k = ap (λ b. b || list_any t (filter p l)) (or_parts (t s) (list_any t l) h).0 ∙ k
    by false k = k

distinct_kept : (p : Report → Bool) (l : List Report) → AreDistinct l → AreDistinct (filter p l)
distinct_kept p [] d = tt
distinct_kept p (s ∷ l) d = by (p s) (distinct_kept p l d.1)
  where
    by : (b : Bool) → AreDistinct (filter p l) → AreDistinct (cond b (s ∷ filter p l) (filter p l))
    by true k = (none_kept (is_same s) p l d.0, k)
    by false k = k

none_same : (r : Report) (l : List Report) → has_report (filter (λ s. not (is_same r s)) l) r ≡ false
none_same r [] = refl
none_same r (s ∷ l) = by (is_same r s) refl (none_same r l)
  where
    by : (b : Bool) → is_same r s ≡ b → has_report (filter (λ t. not (is_same r t)) l) r ≡ false → has_report (cond (not b) (s ∷ filter (λ t. not (is_same r t)) l) (filter (λ t. not (is_same r t)) l)) r ≡ false
    by true e h = h
    by false e h = ap (λ b. b || has_report (filter (λ t. not (is_same r t)) l) r) e ∙ h

pub distinct_firsts : (rs : List Report) → AreDistinct (firsts rs)
distinct_firsts [] = tt
distinct_firsts (r ∷ rs) = (none_same r (firsts rs), distinct_kept (λ s. not (is_same r s)) (firsts rs) (distinct_firsts rs))

distinct_put : (x : Report) (ys : List Report) → has_report ys x ≡ false → AreDistinct ys → AreDistinct (put_in is_before x ys)
distinct_put x [] none d = (refl, tt)
distinct_put x (y ∷ ys) none d = by (is_before y x) (distinct_put x ys (or_parts (is_same x y) (has_report ys x) none).1 d.1)
  where
    by : (b : Bool) → AreDistinct (put_in is_before x ys) → AreDistinct (if b then y ∷ put_in is_before x ys else x ∷ y ∷ ys)
    by true h = (any_put (is_same y) x ys ∙ ap (λ b. b || has_report ys y) (equivalence.symm y x ∙ (or_parts (is_same x y) (has_report ys x) none).0) ∙ d.0, h)
    by false h = (none, d)

distinct_sorted : (xs : List Report) → AreDistinct xs → AreDistinct (in_order is_before xs)
distinct_sorted [] d = tt
distinct_sorted (x ∷ xs) d = distinct_put x (in_order is_before xs) (any_sorted (is_same x) xs ∙ d.0) (distinct_sorted xs d.1)

pub are_in_order : (given : List Report) → AreInOrder given (ordered given)
are_in_order given = record {
  ascending = ascends ranks (firsts given);
  same = λ q. any_sorted (is_same q) (firsts given) ∙ has_firsts given q;
  once = distinct_sorted (firsts given) (distinct_firsts given);
  stable = ties_stay ranks (firsts given);
}

pub only_ordered : (given reports : List Report) → AreInOrder given reports → reports ≡ ordered given
only_ordered given reports h = one ranks (ordered given) reports (ascends ranks (firsts given)) h.ascending (λ z. h.stable z ∙ sym (ties_stay ranks (firsts given) z))

pub same_is_equal : (r s : Report) → is_same r s ≡ true → r ≡ s
same_is_equal = same_report

pub equal_is_same : (r s : Report) → r ≡ s → is_same r s ≡ true
equal_is_same r s e = ap (is_same r) (sym e) ∙ equivalence.refl r
