-- A proof and no rule. Reports that are picked out and then put in order are those that are put in order and then picked out.
use Rattle.std.proofs.Common.{◌≡◌, Bool, true, false, cond, List, [], ◌∷◌, refl, sym, ap, ◌∙◌}
use Rattle.std.specs.Prelude.{not, ◌&&◌, if◌then◌else◌}
use Rattle.std.specs.List.{filter, list_all}
use Rattle.std.proofs.lemmas.Bool.{and_parts}
use Rattle.gv_report.specs.declared.report.Report.{Report}
use Rattle.gv_report.specs.Distinct.{is_before, is_same, firsts, ordered}
use Rattle.gv_report.specs.Sorting.{put_in, in_order, AreAscending}
use Rattle.gv_report.specs.FirstReports.{filter_alike, filter_both}
use Rattle.gv_report.specs.OrderedLaw.{ranks}
use Rattle.gv_report.specs.SameReports.{same_report}
use Rattle.gv_report.specs.SortLemmas.{ascends, turned}

module _ (p : Report → Bool) where
  -- none of these is before x, so it goes first
  goes_first : (x y : Report) (ys : List Report) → is_before y x ≡ false → list_all (λ z. not (is_before z y)) ys ≡ true → put_in is_before x (filter p ys) ≡ x ∷ filter p ys
  goes_first x y [] e all = refl
  goes_first x y (z ∷ zs) e all =
      let parts = and_parts (not (is_before z y)) (list_all (λ w. not (is_before w y)) zs) all in
      by (p z) (ranks.chain z y x (turned (is_before z y) parts.0) e) (goes_first x y zs e parts.1)
    where
      by : (b : Bool) → is_before z x ≡ false → put_in is_before x (filter p zs) ≡ x ∷ filter p zs
          → put_in is_before x (cond b (z ∷ filter p zs) (filter p zs)) ≡ x ∷ cond b (z ∷ filter p zs) (filter p zs)
      by true far h = ap (λ b. if b then z ∷ put_in is_before x (filter p zs) else x ∷ z ∷ filter p zs) far
      by false far h = h

  behind : (x y : Report) (ys zs : List Report) (px py : Bool) → is_before y x ≡ true → zs ≡ cond px (put_in is_before x ys) ys
      → cond py (y ∷ zs) zs ≡ cond px (put_in is_before x (cond py (y ∷ ys) ys)) (cond py (y ∷ ys) ys)
  behind x y ys zs true true e h = ap (λ l. y ∷ l) h ∙ sym (ap (λ b. if b then y ∷ put_in is_before x ys else x ∷ y ∷ ys) e)
  behind x y ys zs true false e h = h
  behind x y ys zs false true e h = ap (λ l. y ∷ l) h
  behind x y ys zs false false e h = h

  in_front : (x y : Report) (ys : List Report) (px py : Bool) → is_before y x ≡ false → list_all (λ z. not (is_before z y)) ys ≡ true
      → cond px (x ∷ cond py (y ∷ filter p ys) (filter p ys)) (cond py (y ∷ filter p ys) (filter p ys)) ≡ cond px (put_in is_before x (cond py (y ∷ filter p ys) (filter p ys))) (cond py (y ∷ filter p ys) (filter p ys))
  in_front x y ys true true e all = sym (ap (λ b. if b then y ∷ put_in is_before x (filter p ys) else x ∷ y ∷ filter p ys) e)
  in_front x y ys true false e all = sym (goes_first x y ys e all)
  in_front x y ys false py e all = refl

  picked_put : (x : Report) (ys : List Report) → AreAscending is_before ys → filter p (put_in is_before x ys) ≡ cond (p x) (put_in is_before x (filter p ys)) (filter p ys)
  picked_put x [] a = refl
  picked_put x (y ∷ ys) a = by (is_before y x) refl (picked_put x ys a.1)
    where
      by : (b : Bool) → is_before y x ≡ b → filter p (put_in is_before x ys) ≡ cond (p x) (put_in is_before x (filter p ys)) (filter p ys)
          → filter p (if b then y ∷ put_in is_before x ys else x ∷ y ∷ ys) ≡ cond (p x) (put_in is_before x (cond (p y) (y ∷ filter p ys) (filter p ys))) (cond (p y) (y ∷ filter p ys) (filter p ys))
      by true e h = behind x y (filter p ys) (filter p (put_in is_before x ys)) (p x) (p y) e h
      by false e h = in_front x y ys (p x) (p y) e a.0

  picked_order : (xs : List Report) → filter p (in_order is_before xs) ≡ in_order is_before (filter p xs)
  picked_order [] = refl
  picked_order (x ∷ xs) = picked_put x (in_order is_before xs) (ascends ranks xs) ∙ by (p x) (picked_order xs)
    where
      by : (b : Bool) → filter p (in_order is_before xs) ≡ in_order is_before (filter p xs)
          → cond b (put_in is_before x (filter p (in_order is_before xs))) (filter p (in_order is_before xs)) ≡ in_order is_before (cond b (x ∷ filter p xs) (filter p xs))
      by true h = ap (put_in is_before x) h
      by false h = h

  -- what is equal is picked alike
  alike : (r s : Report) → is_same r s ≡ true → p r ≡ p s
  alike r s h = ap p (same_report r s h)

  picked_both : (r s : Report) → p r ≡ false → (not (is_same r s) && p s) ≡ p s
  picked_both r s none = by (is_same r s) refl
    where
      by : (b : Bool) → is_same r s ≡ b → (not b && p s) ≡ p s
      by true e = sym (sym (alike r s e) ∙ none)
      by false e = refl

  turned_round : (a b : Bool) → (a && b) ≡ (b && a)
  turned_round true true = refl
  turned_round true false = refl
  turned_round false true = refl
  turned_round false false = refl

  pub picked_firsts : (rs : List Report) → filter p (firsts rs) ≡ firsts (filter p rs)
  picked_firsts [] = refl
  picked_firsts (r ∷ rs) = by (p r) refl (picked_firsts rs)
    where
      by : (b : Bool) → p r ≡ b → filter p (firsts rs) ≡ firsts (filter p rs)
          → cond b (r ∷ filter p (filter (λ s. not (is_same r s)) (firsts rs))) (filter p (filter (λ s. not (is_same r s)) (firsts rs))) ≡ firsts (cond b (r ∷ filter p rs) (filter p rs))
      by true e h =
          ap (λ l. r ∷ l) (filter_both p (λ s. not (is_same r s)) (firsts rs)
          ∙ filter_alike (λ s. not (is_same r s) && p s) (λ s. p s && not (is_same r s)) (λ s. turned_round (not (is_same r s)) (p s)) (firsts rs)
          ∙ sym (filter_both (λ s. not (is_same r s)) p (firsts rs)) ∙ ap (filter (λ s. not (is_same r s))) h)
      by false e h = filter_both p (λ s. not (is_same r s)) (firsts rs) ∙ filter_alike (λ s. not (is_same r s) && p s) p (λ s. picked_both r s e) (firsts rs) ∙ h

  pub picked : (rs : List Report) → filter p (ordered rs) ≡ ordered (filter p rs)
  picked rs = picked_order (firsts rs) ∙ ap (in_order is_before) (picked_firsts rs)
