-- Reports in order of which some are exchanged for others: what is in front of the first difference and behind the last stays.
use Rattle.std.proofs.Common.{◌≡◌, ℕ, zero, suc, ◌+◌, Bool, true, false, cond, List, [], ◌∷◌, ◌++◌, length, take, drop, refl, sym, ap, ◌∙◌, arith, true≢false}
use Rattle.std.specs.Prelude.{not, ◌&&◌, slice_index_or}
use Rattle.std.specs.declared.cmp.Ordering.{Ordering}
use Rattle.std.specs.declared.cmp.Ordering.TheVariants.{Less, Equal, Greater}
use Rattle.std.specs.List.{AllByRecursion, AllWithin, filter, list_all}
use Rattle.std.specs.List.Sorted.{IsPartitionedBy}
use Rattle.std.specs.Ordering.{is_lt, ordering_reverse}
use Rattle.std.proofs.lemmas.Bool.{and_parts}
use Rattle.std.proofs.lemmas.List.{take-append-drop}
use Rattle.std.proofs.lemmas.List.Elements.{filter-append}
use Rattle.gv_report.specs.declared.report.Report.{Report}
use Rattle.gv_report.specs.Distinct.{is_before, ordered}
use Rattle.gv_renew.specs.Exchanging.{IsClosed, IsWindow, between, is_ahead, is_before_first, is_behind_last, is_no_later}
use Rattle.gv_report.specs.Order.{report_cmp}
use Rattle.gv_report.specs.OrderTotal.{report_total}
use Rattle.gv_renew.specs.Renewing.{FollowsOrder, is_tied}
use Rattle.gv_report.specs.Sorting.{AreAscending}
use Rattle.gv_report.specs.OrderedLaw.{are_in_order, ranks}
use Rattle.gv_renew.proofs.RenewingLaw.{renewed}
use Rattle.gv_report.specs.SelectedLaw.{picked}
use Rattle.gv_report.specs.SortLemmas.{both, turned}
use Rattle.gv_renew.proofs.Weaving.{all_at, in_front}

itself : (r : Report) → is_before r r ≡ false
itself r = by (report_cmp r r) refl
  where
    by : (o : Ordering) → report_cmp r r ≡ o → is_lt (report_cmp r r) ≡ false
    by Less is = absurd (true≢false (sym (ap is_lt is) ∙ ap is_lt (report_total.antisymm r r ∙ ap ordering_reverse is)))
    by Equal is = ap is_lt is
    by Greater is = ap is_lt is

later : (r s t : Report) → is_before s r ≡ false → is_before t r ≡ true → is_before t s ≡ true
later r s t far e = by (is_before t s) refl
  where
    by : (b : Bool) → is_before t s ≡ b → is_before t s ≡ true
    by true h = h
    by false h = absurd (true≢false (sym e ∙ ranks.chain t s r h far))

-- ---- the tests of a window

first_earlier : (ts : List Report) (r s : Report) → is_before s r ≡ false → is_before_first ts s ≡ true → is_before_first ts r ≡ true
first_earlier [] r s far e = refl
first_earlier (t ∷ ts) r s far e = in_front t r s (ap not far) e

last_later : (ts : List Report) (r s : Report) → is_before s r ≡ false → is_behind_last ts r ≡ true → is_behind_last ts s ≡ true
last_later [] r s far e = refl
last_later (t ∷ []) r s far e = later r s t far e
last_later (t ∷ u ∷ us) r s far e = last_later (u ∷ us) r s far e

pub ahead_closed : (stale fresh : List Report) → IsClosed (is_ahead stale fresh)
ahead_closed stale fresh r s far e =
    let parts = and_parts (is_before_first stale s) (is_before_first fresh s) e in
    both (is_before_first stale r) (is_before_first fresh r) (first_earlier stale r s far parts.0) (first_earlier fresh r s far parts.1)

pub early_closed : (stale fresh : List Report) → IsClosed (is_no_later stale fresh)
early_closed stale fresh r s far e = by (is_behind_last stale r && is_behind_last fresh r) refl
  where
    by : (b : Bool) → (is_behind_last stale r && is_behind_last fresh r) ≡ b → not b ≡ true
    by false h = refl
    by true h =
        let parts = and_parts (is_behind_last stale r) (is_behind_last fresh r) h in
        ap not (sym (both (is_behind_last stale s) (is_behind_last fresh s) (last_later stale r s far parts.0) (last_later fresh r s far parts.1))) ∙ e

none_pass : (test : Report → Bool) (xs : List Report) → AllByRecursion (λ r. test r ≡ false) xs → filter test xs ≡ []
none_pass test [] all = refl
none_pass test (x ∷ xs) all = rw all.0 (none_pass test xs all.1)

all_so : (p q : Report → Type 0) (xs : List Report) → ((r : Report) → p r → q r) → AllByRecursion p xs → AllByRecursion q xs
all_so p q [] f all = tt
all_so p q (x ∷ xs) f all = (f x all.0, all_so p q xs f all.1)

none_first : (t : Report) (ts : List Report) → list_all (λ y. not (is_before y t)) ts ≡ true → AllByRecursion (λ r. is_before r t ≡ false) ts
none_first t [] all = tt
none_first t (y ∷ ys) all =
    let parts = and_parts (not (is_before y t)) (list_all (λ z. not (is_before z t)) ys) all in
    (turned (is_before y t) parts.0, none_first t ys parts.1)

first_none : (ts : List Report) → AreAscending is_before ts → AllByRecursion (λ r. is_before_first ts r ≡ false) ts
first_none [] up = tt
first_none (t ∷ ts) up = (itself t, none_first t ts up.0)

last_not : (x t : Report) (ts : List Report) → list_all (λ y. not (is_before y x)) (t ∷ ts) ≡ true → is_behind_last (t ∷ ts) x ≡ false
last_not x t [] all = turned (is_before t x) (and_parts (not (is_before t x)) true all).0
last_not x t (u ∷ us) all = last_not x u us (and_parts (not (is_before t x)) (list_all (λ y. not (is_before y x)) (u ∷ us)) all).1

last_none : (ts : List Report) → AreAscending is_before ts → AllByRecursion (λ r. is_behind_last ts r ≡ false) ts
last_none [] up = tt
last_none (t ∷ []) up = (itself t, tt)
last_none (t ∷ u ∷ us) up = (last_not t u us up.0, last_none (u ∷ us) up.1)

pub ascending_rest : (n : ℕ) (xs : List Report) → AreAscending is_before xs → AreAscending is_before (drop n xs)
ascending_rest zero xs up = up
ascending_rest (suc n) [] up = tt
ascending_rest (suc n) (x ∷ xs) up = ascending_rest n xs up.1

all_front : (p : Report → Bool) (n : ℕ) (xs : List Report) → list_all p xs ≡ true → list_all p (take n xs) ≡ true
all_front p zero xs all = refl
all_front p (suc n) [] all = refl
all_front p (suc n) (x ∷ xs) all = let parts = and_parts (p x) (list_all p xs) all in both (p x) (list_all p (take n xs)) parts.0 (all_front p n xs parts.1)

ascending_front : (n : ℕ) (xs : List Report) → AreAscending is_before xs → AreAscending is_before (take n xs)
ascending_front zero xs up = tt
ascending_front (suc n) [] up = tt
ascending_front (suc n) (x ∷ xs) up = (all_front (λ y. not (is_before y x)) n xs up.0, ascending_front n xs up.1)

and_false : (a b : Bool) → b ≡ false → (a && b) ≡ false
and_false true b e = e
and_false false b e = refl

in_parts : (test : Report → Bool) (n : ℕ) (xs : List Report) → filter test xs ≡ filter test (take n xs) ++ filter test (drop n xs)
in_parts test n xs = ap (filter test) (sym (take-append-drop n xs)) ∙ filter-append test (take n xs) (drop n xs)

module _ (stale fresh : List Report) (stale_up : AreAscending is_before stale) (fresh_up : AreAscending is_before fresh) where
  pub same_ahead : (n : ℕ) → take n stale ≡ take n fresh
      → filter (is_ahead (drop n stale) (drop n fresh)) fresh ≡ filter (is_ahead (drop n stale) (drop n fresh)) stale
  same_ahead n alike =
      let test = is_ahead (drop n stale) (drop n fresh) in
      let none = none_pass test (drop n fresh) (all_so (λ r. is_before_first (drop n fresh) r ≡ false) (λ r. test r ≡ false) (drop n fresh)
      (λ r e. and_false (is_before_first (drop n stale) r) (is_before_first (drop n fresh) r) e) (first_none (drop n fresh) (ascending_rest n fresh fresh_up))) in
      let none_stale = none_pass test (drop n stale) (all_so (λ r. is_before_first (drop n stale) r ≡ false) (λ r. test r ≡ false) (drop n stale)
      (λ r e. ap (λ b. b && is_before_first (drop n fresh) r) e) (first_none (drop n stale) (ascending_rest n stale stale_up))) in
      in_parts test n fresh ∙ ap (λ l. filter test (take n fresh) ++ l) none ∙ ap (λ l. filter test l ++ []) (sym alike)
      ∙ sym (in_parts test n stale ∙ ap (λ l. filter test (take n stale) ++ l) none_stale)

  pub same_behind : (n k : ℕ) → drop n stale ≡ drop k fresh
      → filter (λ r. not (is_no_later (take n stale) (take k fresh) r)) fresh ≡ filter (λ r. not (is_no_later (take n stale) (take k fresh) r)) stale
  same_behind n k alike =
      let test = λ (r : Report). not (is_no_later (take n stale) (take k fresh) r) in
      let none = none_pass test (take k fresh) (all_so (λ r. is_behind_last (take k fresh) r ≡ false) (λ r. test r ≡ false) (take k fresh)
      (λ r e. ap (λ b. not (not b)) (and_false (is_behind_last (take n stale) r) (is_behind_last (take k fresh) r) e)) (last_none (take k fresh) (ascending_front k fresh fresh_up))) in
      let none_stale = none_pass test (take n stale) (all_so (λ r. is_behind_last (take n stale) r ≡ false) (λ r. test r ≡ false) (take n stale)
      (λ r e. ap (λ b. not (not (b && is_behind_last (take k fresh) r))) e) (last_none (take n stale) (ascending_front n stale stale_up))) in
      in_parts test k fresh ∙ ap (λ l. l ++ filter test (drop k fresh)) none ∙ ap (filter test) (sym alike)
      ∙ sym (in_parts test n stale ∙ ap (λ l. l ++ filter test (drop n stale)) none_stale)

between_counted : {A : Type 0} (first count : ℕ) (xs : List A) → between first (first + count) xs ≡ take count (drop first xs)
between_counted first count xs = ap (λ k. take k (drop first xs)) (omega arith)

none_left : {A : Type 0} (n : ℕ) → drop {A = A} n [] ≡ []
none_left zero = refl
none_left (suc n) = refl

dropped_on : {A : Type 0} (first count : ℕ) (xs : List A) → drop (first + count) xs ≡ drop count (drop first xs)
dropped_on zero count xs = ap (λ n. drop n xs) (omega arith)
dropped_on (suc first) count [] = none_left (suc first + count) ∙ sym (none_left count)
dropped_on (suc first) count (x ∷ xs) = ap (λ n. drop n (x ∷ xs)) {x = suc first + count} {y = suc (first + count)} (omega arith) ∙ dropped_on first count xs

module _ (before stale fresh rest fresh_rest : List Report) (stale_up : AreAscending is_before stale) (fresh_up : AreAscending is_before fresh)
    (n k m first count fresh_first fresh_count : ℕ) (alike : take n stale ≡ take n fresh) (alike_last : drop k stale ≡ drop m fresh)
    (stale_later fresh_later stale_early fresh_early : List Report)
    (later_is : stale_later ≡ drop n stale) (fresh_later_is : fresh_later ≡ drop n fresh) (early_is : stale_early ≡ take k stale) (fresh_early_is : fresh_early
    ≡ take m fresh)
    (rest_is : rest ≡ drop first before) (fresh_rest_is : fresh_rest ≡ drop fresh_first fresh) where
  abbrev pub ahead : Report → Bool
  ahead = is_ahead stale_later fresh_later

  abbrev pub early : Report → Bool
  early = is_no_later stale_early fresh_early

  pub is_window : take first before ≡ filter ahead before → drop first before ≡ filter (λ r. not (ahead r)) before
      → take count rest ≡ filter early rest → drop count rest ≡ filter (λ r. not (early r)) rest
      → drop fresh_first fresh ≡ filter (λ r. not (ahead r)) fresh → take fresh_count fresh_rest ≡ filter early fresh_rest
      → IsWindow before stale fresh (record { first = first; end = first + count; fresh_first = fresh_first; fresh_end = fresh_first + fresh_count })
  is_window front behind_front middle back fresh_behind fresh_middle = record {
    ahead = ahead;
    early = early;
    ahead_closed = ahead_closed stale_later fresh_later;
    early_closed = early_closed stale_early fresh_early;
    same_ahead = rw (later_is, fresh_later_is) (same_ahead stale fresh stale_up fresh_up n alike);
    same_behind = rw (early_is, fresh_early_is) (same_behind stale fresh stale_up fresh_up k m alike_last);
    front = front;
    middle = between_counted first count before ∙ ap (take count) (sym rest_is) ∙ middle ∙ ap (filter early) (rest_is ∙ behind_front);
    back = dropped_on first count before ∙ ap (drop count) (sym rest_is) ∙ back ∙ ap (filter (λ r. not (early r))) (rest_is ∙ behind_front);
    fresh_middle = between_counted fresh_first fresh_count fresh ∙ ap (take fresh_count) (sym fresh_rest_is) ∙ fresh_middle
        ∙ ap (filter early) (fresh_rest_is ∙ fresh_behind);
  }

-- ---- lists that ascend, parted by a test

module _ (test : Report → Bool) where
  none_later : (x : Report) (xs : List Report) → IsClosed test → test x ≡ false → list_all (λ y. not (is_before y x)) xs ≡ true
      → (filter test xs ≡ []) × (filter (λ r. not (test r)) xs ≡ xs)
  none_later x [] closed e all = (refl, refl)
  none_later x (y ∷ ys) closed e all =
      let parts = and_parts (not (is_before y x)) (list_all (λ z. not (is_before z x)) ys) all in
      by (test y) refl (none_later x ys closed e parts.1) (turned (is_before y x) parts.0)
    where
      by : (b : Bool) → test y ≡ b → (filter test ys ≡ []) × (filter (λ r. not (test r)) ys ≡ ys) → is_before y x ≡ false
          → (cond b (y ∷ filter test ys) (filter test ys) ≡ []) × (cond (not b) (y ∷ filter (λ r. not (test r)) ys) (filter (λ r. not (test r)) ys) ≡ y ∷ ys)
      by true f rest far = absurd (true≢false (sym (closed x y far f) ∙ e))
      by false f rest far = (rest.0, ap (λ l. y ∷ l) rest.1)

  parted_list : (xs : List Report) → IsClosed test → AreAscending is_before xs → filter test xs ++ filter (λ r. not (test r)) xs ≡ xs
  parted_list [] closed up = refl
  parted_list (x ∷ xs) closed up = by (test x) refl (parted_list xs closed up.1)
    where
      by : (b : Bool) → test x ≡ b → filter test xs ++ filter (λ r. not (test r)) xs ≡ xs
          → cond b (x ∷ filter test xs) (filter test xs) ++ cond (not b) (x ∷ filter (λ r. not (test r)) xs) (filter (λ r. not (test r)) xs) ≡ x ∷ xs
      by true e rest = ap (λ l. x ∷ l) rest
      by false e rest = let none = none_later x xs closed e up.0 in ap (λ l. l ++ x ∷ filter (λ r. not (test r)) xs) none.0 ∙ ap (λ l. x ∷ l) none.1

  pub parted : (xs : List Report) → IsClosed test → AreAscending is_before xs → IsPartitionedBy test xs
  parted [] closed up i j d le lt e = absurd (omega (arith, lt))
  parted (x ∷ xs) closed up zero zero d le lt e = e
  parted (x ∷ xs) closed up zero (suc j) d le lt e = closed x (slice_index_or xs j d) (turned (is_before (slice_index_or xs j d) x) (all_at (λ y. not (is_before y x)) xs j d up.0 (omega (arith, lt)))) e
  parted (x ∷ xs) closed up (suc i) zero d le lt e = absurd (omega (arith, le))
  parted (x ∷ xs) closed up (suc i) (suc j) d le lt e = parted xs closed up.1 i j d (omega (arith, le)) (omega (arith, lt)) e

  pub taken : (xs : List Report) (i : ℕ) → AllWithin (λ r. test r ≡ true) xs 0 i → AllWithin (λ r. test r ≡ false) xs i (length xs) → take i xs ≡ filter test xs
  taken [] zero pass fail = refl
  taken [] (suc i) pass fail = refl
  taken (x ∷ xs) zero pass fail =
      taken xs zero (λ j d low high. absurd (omega (arith, low, high))) (λ j d low high. fail (suc j) d (omega arith) (omega (arith, high)))
      ∙ sym (ap (λ b. cond b (x ∷ filter test xs) (filter test xs)) (fail 0 x (omega arith) (omega arith)))
  taken (x ∷ xs) (suc i) pass fail =
      ap (λ l. x ∷ l) (taken xs i (λ j d low high. pass (suc j) d (omega arith) (omega (arith, high))) (λ j d low high. fail (suc j) d (omega (arith, low)) (omega (arith, high))))
      ∙ sym (ap (λ b. cond b (x ∷ filter test xs) (filter test xs)) (pass 0 x (omega arith) (omega arith)))

  pub dropped : (xs : List Report) (i : ℕ) → AllWithin (λ r. test r ≡ true) xs 0 i → AllWithin (λ r. test r ≡ false) xs i (length xs)
      → drop i xs ≡ filter (λ r. not (test r)) xs
  dropped [] zero pass fail = refl
  dropped [] (suc i) pass fail = refl
  dropped (x ∷ xs) zero pass fail =
      ap (λ l. x ∷ l) (dropped xs zero (λ j d low high. absurd (omega (arith, low, high))) (λ j d low high. fail (suc j) d (omega arith) (omega (arith, high))))
      ∙ sym (ap (λ b. cond (not b) (x ∷ filter (λ r. not (test r)) xs) (filter (λ r. not (test r)) xs)) (fail 0 x (omega arith) (omega arith)))
  dropped (x ∷ xs) (suc i) pass fail =
      dropped xs i (λ j d low high. pass (suc j) d (omega arith) (omega (arith, high))) (λ j d low high. fail (suc j) d (omega (arith, low)) (omega (arith, high)))
      ∙ sym (ap (λ b. cond (not b) (x ∷ filter (λ r. not (test r)) xs) (filter (λ r. not (test r)) xs)) (pass 0 x (omega arith) (omega arith)))

-- two tests may be made in any order
swapped : (a b : Report → Bool) (xs : List Report) → filter a (filter b xs) ≡ filter b (filter a xs)
swapped a b [] = refl
swapped a b (x ∷ xs) = by (a x) refl (b x) refl (swapped a b xs)
  where
    by : (c : Bool) → a x ≡ c → (d : Bool) → b x ≡ d → filter a (filter b xs) ≡ filter b (filter a xs)
        → filter a (cond d (x ∷ filter b xs) (filter b xs)) ≡ filter b (cond c (x ∷ filter a xs) (filter a xs))
    by true e true f h = rw (e, f) (ap (λ l. x ∷ l) h)
    by true e false f h = rw f h
    by false e true f h = rw e h
    by false e false f h = h

-- ---- the stale ones, told as they were

module _ (is_stale : Report → Bool) where
  stale_class : (r : Report) (xs : List Report) → FollowsOrder is_stale → is_stale r ≡ true → filter (is_tied r) (filter is_stale xs) ≡ filter (is_tied r) xs
  stale_class r [] follows e = refl
  stale_class r (x ∷ xs) follows e = by (is_stale x) refl (is_tied r x) refl (stale_class r xs follows e)
    where
      by : (b : Bool) → is_stale x ≡ b → (c : Bool) → is_tied r x ≡ c → filter (is_tied r) (filter is_stale xs) ≡ filter (is_tied r) xs
          → filter (is_tied r) (cond b (x ∷ filter is_stale xs) (filter is_stale xs)) ≡ cond c (x ∷ filter (is_tied r) xs) (filter (is_tied r) xs)
      by true f true g h = rw g (ap (λ l. x ∷ l) h)
      by true f false g h = rw g h
      by false f true g h = absurd (true≢false (sym e ∙ follows r x g ∙ f))
      by false f false g h = h

  all_stale : (xs : List Report) → AllByRecursion (λ r. is_stale r ≡ true) (filter is_stale xs)
  all_stale [] = tt
  all_stale (x ∷ xs) = by (is_stale x) refl (all_stale xs)
    where
      by : (b : Bool) → is_stale x ≡ b → AllByRecursion (λ r. is_stale r ≡ true) (filter is_stale xs)
          → AllByRecursion (λ r. is_stale r ≡ true) (cond b (x ∷ filter is_stale xs) (filter is_stale xs))
      by true e h = (e, h)
      by false e h = h

-- ---- the window

module _ (is_stale : Report → Bool) (follows : FollowsOrder is_stale) (before fresh : List Report) (order : ordered before ≡ before) where
  abbrev pub kept : List Report
  kept = filter (λ r. not (is_stale r)) before

  told_again : ordered (kept ++ filter is_stale before) ≡ before
  told_again =
      ap (λ l. ordered (filter (λ r. not (is_stale r)) l ++ filter is_stale before)) (sym order)
      ∙ renewed is_stale follows before before (filter is_stale before) (λ r e. refl) (λ r e. stale_class is_stale r before follows e) (all_stale is_stale before)
      ∙ order

  -- where a test picks the same of the fresh and the stale ones, it picks what it picks of the reports
  side : (test : Report → Bool) → filter test fresh ≡ filter test (filter is_stale before) → ordered (filter test (kept ++ fresh)) ≡ filter test before
  side test same =
      ap ordered (filter-append test kept fresh ∙ ap (λ l. filter test kept ++ l) same ∙ sym (filter-append test kept (filter is_stale before)))
      ∙ sym (picked test (kept ++ filter is_stale before)) ∙ ap (filter test) told_again

  parts : (test : Report → Bool) (xs : List Report) → IsClosed test → ordered xs ≡ ordered (filter test xs) ++ ordered (filter (λ r. not (test r)) xs)
  parts test xs closed =
      sym (parted_list test (ordered xs) closed (are_in_order xs).ascending) ∙ ap (λ l. l ++ filter (λ r. not (test r)) (ordered xs)) (picked test xs)
      ∙ ap (λ l. ordered (filter test xs) ++ l) (picked (λ r. not (test r)) xs)

  module _ (ahead early : Report → Bool) (ahead_closed : IsClosed ahead) (early_closed : IsClosed early)
      (same_ahead : filter ahead fresh ≡ filter ahead (filter is_stale before))
      (same_behind : filter (λ r. not (early r)) fresh ≡ filter (λ r. not (early r)) (filter is_stale before)) where
    abbrev pub behind_front : Report → Bool
    behind_front r = not (ahead r)

    abbrev pub behind : Report → Bool
    behind r = not (early r)

    middle : filter early (filter behind_front (kept ++ fresh))
        ≡ filter (λ r. not (is_stale r)) (filter early (filter behind_front before)) ++ filter early (filter behind_front fresh)
    middle =
        ap (filter early) (filter-append behind_front kept fresh) ∙ filter-append early (filter behind_front kept) (filter behind_front fresh)
        ∙ ap (λ l. filter early l ++ filter early (filter behind_front fresh)) (swapped behind_front (λ r. not (is_stale r)) before)
        ∙ ap (λ l. l ++ filter early (filter behind_front fresh)) (swapped early (λ r. not (is_stale r)) (filter behind_front before))

    back : ordered (filter behind (filter behind_front (kept ++ fresh))) ≡ filter behind (filter behind_front before)
    back =
        ap ordered (swapped behind behind_front (kept ++ fresh)) ∙ sym (picked behind_front (filter behind (kept ++ fresh)))
        ∙ ap (filter behind_front) (side behind same_behind) ∙ swapped behind_front behind before

    pub in_window : ordered (kept ++ fresh)
        ≡ filter ahead before ++ (ordered (filter (λ r. not (is_stale r)) (filter early (filter behind_front before)) ++ filter early (filter behind_front fresh)) ++ filter behind (filter behind_front before))
    in_window =
        parts ahead (kept ++ fresh) ahead_closed ∙ ap (λ l. l ++ ordered (filter behind_front (kept ++ fresh))) (side ahead same_ahead)
        ∙ ap (λ l. filter ahead before ++ l) (parts early (filter behind_front (kept ++ fresh)) early_closed
        ∙ ap (λ l. ordered l ++ ordered (filter behind (filter behind_front (kept ++ fresh)))) middle
        ∙ ap (λ l. ordered (filter (λ r. not (is_stale r)) (filter early (filter behind_front before)) ++ filter early (filter behind_front fresh)) ++ l) back)

    pub kept_ordered : (let window = filter (λ r. not (is_stale r)) (filter early (filter behind_front before)) in ordered window ≡ window)
    kept_ordered =
        sym (picked (λ r. not (is_stale r)) (filter early (filter behind_front before))) ∙ ap (filter (λ r. not (is_stale r)))
        (sym (picked early (filter behind_front before)) ∙ ap (filter early) (sym (picked behind_front before) ∙ ap (filter behind_front) order))
