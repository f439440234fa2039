-- Reports put among others that ascend are in order.
use Rattle.std.proofs.Common.{◌≡◌, ℕ, zero, suc, ◌+◌, ◌-◌, ◌<◌, ◌≤◌, Bool, true, false, cond, List, [], ◌∷◌, ◌++◌, length, get_or, take, drop, refl, sym, ap, subst, ◌∙◌, arith, append_assoc, append-nil, true≢false}
use Rattle.std.specs.Prelude.{not, ◌&&◌, ◌||◌, if◌then◌else◌, slice_index_or}
use Rattle.std.specs.declared.cmp.Ordering.{Ordering}
use Rattle.std.specs.declared.cmp.Ordering.TheVariants.{Less, Equal, Greater}
use Rattle.std.specs.List.{AllWithin, filter, list_all}
use Rattle.std.specs.List.Sorted.{IsPartitionedBy, ties}
use Rattle.std.specs.Ordering.{is_eq}
use Rattle.std.proofs.lemmas.Bool.{and_parts, or_parts}
use Rattle.std.proofs.lemmas.List.{length-drop}
use Rattle.std.proofs.lemmas.List.Elements.{filter-append}
use Rattle.std.proofs.Math.Seq.{take-length}
use Rattle.gv_report.specs.declared.report.Report.{Report}
use Rattle.gv_report.specs.Distinct.{is_before, is_same, firsts, ordered}
use Rattle.gv_renew.specs.Merging.{ahead, has_tied, left, some_tied, woven}
use Rattle.gv_report.specs.Order.{report_cmp}
use Rattle.gv_report.specs.OrderTotal.{report_total}
use Rattle.gv_renew.specs.Renewing.{is_tied}
use Rattle.gv_report.specs.Sorting.{put_in, in_order, AreAscending}
use Rattle.gv_report.specs.FirstReports.{filter_alike}
use Rattle.gv_report.specs.OrderedLaw.{are_in_order, distinct_firsts, ranks}
use Rattle.gv_renew.proofs.RenewingLaw.{ties_tied}
use Rattle.gv_report.specs.SelectedLaw.{picked, picked_firsts}
use Rattle.gv_report.specs.SortLemmas.{ascends, both, one, ties_stay, turned}
use Rattle.gv_report.specs.StrictLaw.{again, all_stay}

-- What ascends is parted by a report.

pub all_at : (p : Report → Bool) (ks : List Report) (j : ℕ) (d : Report) → list_all p ks ≡ true → j < length ks → p (slice_index_or ks j d) ≡ true
all_at p [] j d all lt = absurd (omega (arith, lt))
all_at p (k ∷ ks) zero d all lt = (and_parts (p k) (list_all p ks) all).0
all_at p (k ∷ ks) (suc j) d all lt = all_at p ks j d (and_parts (p k) (list_all p ks) all).1 (omega (arith, lt))

pub in_front : (r k s : Report) → not (is_before s k) ≡ true → is_before s r ≡ true → is_before k r ≡ true
in_front r k s behind e = by (is_before k r) refl
  where
    by : (b : Bool) → is_before k r ≡ b → is_before k r ≡ true
    by true h = h
    by false h = absurd (true≢false (sym e ∙ ranks.chain s k r (turned (is_before s k) behind) h))

pub parted : (r : Report) (ks : List Report) → AreAscending is_before ks → IsPartitionedBy (λ k. is_before k r) ks
parted r [] a i j d le lt e = absurd (omega (arith, lt))
parted r (k ∷ ks) a zero zero d le lt e = e
parted r (k ∷ ks) a zero (suc j) d le lt e =
    in_front r k (slice_index_or ks j d) (all_at (λ s. not (is_before s k)) ks j d a.0 (omega (arith, lt))) e
parted r (k ∷ ks) a (suc i) zero d le lt e = absurd (omega (arith, le))
parted r (k ∷ ks) a (suc i) (suc j) d le lt e = parted r ks a.1 i j d (omega (arith, le)) (omega (arith, lt)) e

pub taken : (r : Report) (ks : List Report) (i : ℕ) → AllWithin (λ k. is_before k r ≡ true) ks 0 i → AllWithin (λ k. is_before k r ≡ false) ks i (length ks)
    → take i ks ≡ ahead r ks
taken r [] zero pass fail = refl
taken r [] (suc i) pass fail = refl
taken r (k ∷ ks) zero pass fail = sym (ap (λ b. cond b (k ∷ ahead r ks) []) (fail 0 k (omega arith) (omega arith)))
taken r (k ∷ ks) (suc i) pass fail =
    ap (λ l. k ∷ l) (taken r ks i (λ j d low high. pass (suc j) d (omega arith) (omega (arith, high))) (λ j d low high. fail (suc j) d (omega (arith, low)) (omega (arith, high))))
    ∙ sym (ap (λ b. cond b (k ∷ ahead r ks) []) (pass 0 k (omega arith) (omega arith)))

pub dropped : (r : Report) (ks : List Report) (i : ℕ) → AllWithin (λ k. is_before k r ≡ true) ks 0 i → AllWithin (λ k. is_before k r ≡ false) ks i (length ks)
    → drop i ks ≡ left r ks
dropped r [] zero pass fail = refl
dropped r [] (suc i) pass fail = refl
dropped r (k ∷ ks) zero pass fail = sym (ap (λ b. cond b (left r ks) (k ∷ ks)) (fail 0 k (omega arith) (omega arith)))
dropped r (k ∷ ks) (suc i) pass fail =
    dropped r ks i (λ j d low high. pass (suc j) d (omega arith) (omega (arith, high))) (λ j d low high. fail (suc j) d (omega (arith, low)) (omega (arith, high)))
    ∙ sym (ap (λ b. cond b (left r ks) (k ∷ ks)) (pass 0 k (omega arith) (omega arith)))

pub whole_rest : (ks : List Report) (i : ℕ) → take (length ks - i) (drop i ks) ≡ drop i ks
whole_rest ks i = by (drop i ks) (length-drop i ks)
  where
    by : (rest : List Report) → length rest ≡ length ks - i → take (length ks - i) rest ≡ rest
    by rest same = rw (sym same) (take-length rest)

pub left_ascends : (r : Report) (ks : List Report) → AreAscending is_before ks → AreAscending is_before (left r ks)
left_ascends r [] a = tt
left_ascends r (k ∷ ks) a = by (is_before k r) (left_ascends r ks a.1)
  where
    by : (b : Bool) → AreAscending is_before (left r ks) → AreAscending is_before (cond b (left r ks) (k ∷ ks))
    by true h = h
    by false h = a

-- Ties with reports that ascend.

before_apart : (r k : Report) → is_before k r ≡ true → is_tied r k ≡ false
before_apart r k e = sym (ties_tied r k) ∙ ap (λ b. not (is_before r k) && not b) e ∙ by (is_before r k)
  where
    by : (b : Bool) → (not b && false) ≡ false
    by true = refl
    by false = refl

behind_apart : (r k : Report) → is_before r k ≡ true → is_tied r k ≡ false
behind_apart r k e = sym (ties_tied r k) ∙ ap (λ b. not b && not (is_before k r)) e

none_behind : (r k : Report) (ks : List Report) → is_before r k ≡ true → list_all (λ s. not (is_before s k)) ks ≡ true → has_tied ks r ≡ false
none_behind r k [] e all = refl
none_behind r k (s ∷ ks) e all =
    let parts = and_parts (not (is_before s k)) (list_all (λ t. not (is_before t k)) ks) all in
    ap (λ b. b || has_tied ks r) (behind_apart r s (by (is_before r s) refl parts.0)) ∙ none_behind r k ks e parts.1
  where
    by : (b : Bool) → is_before r s ≡ b → not (is_before s k) ≡ true → is_before r s ≡ true
    by true h far = h
    by false h far = absurd (true≢false (sym e ∙ ranks.chain r s k h (turned (is_before s k) far)))

-- whether the first isn't behind the report
abbrev pub first_tied : Report → List Report → Bool
first_tied r [] = false
first_tied r (k ∷ ks) = not (is_before r k)

tied_here : (r k : Report) (ks : List Report) (b : Bool) → is_before k r ≡ false → is_before r k ≡ b → list_all (λ s. not (is_before s k)) ks ≡ true
    → has_tied (k ∷ ks) r ≡ not b
tied_here r k ks true e f all = ap (λ b. b || has_tied ks r) (behind_apart r k f) ∙ none_behind r k ks f all
tied_here r k ks false e f all = ap (λ b. b || has_tied ks r) (sym (ties_tied r k) ∙ both (not (is_before r k)) (not (is_before k r)) (ap not f) (ap not e))

pub tied_left : (r : Report) (ks : List Report) → AreAscending is_before ks → has_tied ks r ≡ first_tied r (left r ks)
tied_left r [] a = refl
tied_left r (k ∷ ks) a = by (is_before k r) refl (tied_left r ks a.1)
  where
    by : (b : Bool) → is_before k r ≡ b → has_tied ks r ≡ first_tied r (left r ks) → has_tied (k ∷ ks) r ≡ first_tied r (cond b (left r ks) (k ∷ ks))
    by true e h = ap (λ b. b || has_tied ks r) (before_apart r k e) ∙ h
    by false e h = tied_here r k ks (is_before r k) e refl a.0

pub first_none : (r : Report) (ks : List Report) → length ks < 1 → first_tied r ks ≡ false
first_none r [] lt = refl
first_none r (k ∷ ks) lt = absurd (omega (arith, lt))

pub first_some : (r k : Report) (ks : List Report) → 1 ≤ length ks → k ≡ get_or ks 0 k → first_tied r ks ≡ not (is_before r k)
first_some r k [] le is = absurd (omega (arith, le))
first_some r k (s ∷ ks) le is = ap (λ t. not (is_before r t)) (sym is)

-- Reports put among others are those of both lists in order.

sorted_stays : (ks : List Report) → AreAscending is_before ks → in_order is_before ks ≡ ks
sorted_stays ks a = one ranks ks (in_order is_before ks) a (ascends ranks ks) (ties_stay ranks ks)

woven_none : (rs : List Report) → woven [] rs ≡ rs
woven_none [] = refl
woven_none (r ∷ rs) = ap (λ l. r ∷ l) (woven_none rs)

put_first : (r : Report) (rs : List Report) → list_all (λ s. not (is_before s r)) rs ≡ true → put_in is_before r rs ≡ r ∷ rs
put_first r [] all = refl
put_first r (s ∷ rs) all =
    ap (λ b. if b then s ∷ put_in is_before r rs else r ∷ s ∷ rs) (turned (is_before s r) (and_parts (not (is_before s r)) (list_all (λ t. not (is_before t r)) rs) all).0)

-- a kept one that isn't before the report
put_here : (r k : Report) (ks rs : List Report) → is_before k r ≡ false → list_all (λ s. not (is_before s r)) rs ≡ true
    → put_in is_before r (woven (k ∷ ks) rs) ≡ r ∷ woven (k ∷ ks) rs
put_here r k ks [] e all = ap (λ b. if b then k ∷ put_in is_before r ks else r ∷ k ∷ ks) e
put_here r k ks (s ∷ rs) e all = by (is_before k s)
  where
    by : (b : Bool)
        → put_in is_before r (cond b (k ∷ ahead s ks) [] ++ s ∷ woven (cond b (left s ks) (k ∷ ks)) rs) ≡ r ∷ cond b (k ∷ ahead s ks) [] ++ s ∷ woven (cond b (left s ks) (k ∷ ks)) rs
    by true = ap (λ b. if b then k ∷ put_in is_before r (ahead s ks ++ s ∷ woven (left s ks) rs) else r ∷ k ∷ ahead s ks ++ s ∷ woven (left s ks) rs) e
    by false =
        ap (λ b. if b then s ∷ put_in is_before r (woven (k ∷ ks) rs) else r ∷ s ∷ woven (k ∷ ks) rs)
        (turned (is_before s r) (and_parts (not (is_before s r)) (list_all (λ t. not (is_before t r)) rs) all).0)

-- a kept one that is before the report is before those behind the report
comes_first : (r k : Report) (ks rs : List Report) → is_before k r ≡ true → list_all (λ s. not (is_before s r)) rs ≡ true → woven (k ∷ ks) rs ≡ k ∷ woven ks rs
comes_first r k ks [] e all = refl
comes_first r k ks (s ∷ rs) e all =
    ap (λ b. cond b (k ∷ ahead s ks) [] ++ s ∷ woven (cond b (left s ks) (k ∷ ks)) rs)
    (by (is_before k s) refl (turned (is_before s r) (and_parts (not (is_before s r)) (list_all (λ t. not (is_before t r)) rs) all).0))
  where
    by : (b : Bool) → is_before k s ≡ b → is_before s r ≡ false → is_before k s ≡ true
    by true h far = h
    by false h far = absurd (true≢false (sym e ∙ ranks.chain k s r h far))

put_woven : (r : Report) (ks rs : List Report) → list_all (λ s. not (is_before s r)) rs ≡ true → put_in is_before r (woven ks rs) ≡ ahead r ks ++ r ∷ woven (left r ks) rs
put_woven r [] rs all = ap (put_in is_before r) (woven_none rs) ∙ put_first r rs all ∙ sym (ap (λ l. r ∷ l) (woven_none rs))
put_woven r (k ∷ ks) rs all = by (is_before k r) refl (put_woven r ks rs all)
  where
    by : (b : Bool) → is_before k r ≡ b → put_in is_before r (woven ks rs) ≡ ahead r ks ++ r ∷ woven (left r ks) rs
        → put_in is_before r (woven (k ∷ ks) rs) ≡ cond b (k ∷ ahead r ks) [] ++ r ∷ woven (cond b (left r ks) (k ∷ ks)) rs
    by true e h =
        ap (put_in is_before r) (comes_first r k ks rs e all)
        ∙ ap (λ b. if b then k ∷ put_in is_before r (woven ks rs) else r ∷ k ∷ woven ks rs) e ∙ ap (λ l. k ∷ l) h
    by false e h = put_here r k ks rs e all

woven_sorted : (ks rs : List Report) → AreAscending is_before ks → AreAscending is_before rs → woven ks rs ≡ in_order is_before (rs ++ ks)
woven_sorted ks [] a b = sym (sorted_stays ks a)
woven_sorted ks (r ∷ rs) a b = sym (put_woven r ks rs b.0) ∙ ap (put_in is_before r) (woven_sorted ks rs a b.1)

-- Where none ties with one of the others, it is the same which list is in front.

tied_alike : (r s : Report) (ks : List Report) → is_tied r s ≡ true → has_tied ks r ≡ has_tied ks s
tied_alike r s [] e = refl
tied_alike r s (k ∷ ks) e =
    ap (λ b. b || has_tied ks r) (ap is_eq (report_total.congr r s k (equal (report_cmp r s) e))) ∙ ap (λ b. is_tied s k || b) (tied_alike r s ks e)
  where
    equal : (o : Ordering) → is_eq o ≡ true → o ≡ Equal
    equal Less h = absurd (true≢false (sym h))
    equal Equal h = refl
    equal Greater h = absurd (true≢false (sym h))

none_tied : (z : Report) (ks : List Report) → has_tied ks z ≡ false → filter (is_tied z) ks ≡ []
none_tied z [] h = refl
none_tied z (k ∷ ks) h =
    let parts = or_parts (is_tied z k) (has_tied ks z) h in
    ap (λ b. cond b (k ∷ filter (is_tied z) ks) (filter (is_tied z) ks)) parts.0 ∙ none_tied z ks parts.1

none_fresh : (z : Report) (ks rs : List Report) → some_tied ks rs ≡ false → has_tied ks z ≡ true → filter (is_tied z) rs ≡ []
none_fresh z ks [] apart e = refl
none_fresh z ks (r ∷ rs) apart e =
    let parts = or_parts (has_tied ks r) (some_tied ks rs) apart in
    by (is_tied z r) refl parts.0 (none_fresh z ks rs parts.1 e)
  where
    by : (b : Bool) → is_tied z r ≡ b → has_tied ks r ≡ false → filter (is_tied z) rs ≡ [] → cond b (r ∷ filter (is_tied z) rs) (filter (is_tied z) rs) ≡ []
    by true h none rest = absurd (true≢false (sym e ∙ tied_alike z r ks h ∙ none))
    by false h none rest = rest

module _ (ks rs : List Report) (kept : ordered ks ≡ ks) (fresh : ordered rs ≡ rs) (apart : some_tied ks rs ≡ false) where
  class : (z : Report) (b : Bool) → has_tied ks z ≡ b → filter (is_tied z) rs ++ filter (is_tied z) ks ≡ ordered (filter (is_tied z) ks ++ filter (is_tied z) rs)
  class z true e =
      let none = none_fresh z ks rs apart e in
      ap (λ l. l ++ filter (is_tied z) ks) none ∙ ap (filter (is_tied z)) (sym kept) ∙ picked (is_tied z) ks
      ∙ sym (ap (λ l. ordered (filter (is_tied z) ks ++ l)) none ∙ ap ordered (append-nil (filter (is_tied z) ks)))
  class z false e =
      let none = none_tied z ks e in
      ap (λ l. filter (is_tied z) rs ++ l) none ∙ append-nil (filter (is_tied z) rs) ∙ ap (filter (is_tied z)) (sym fresh) ∙ picked (is_tied z) rs
      ∙ sym (ap (λ l. ordered (l ++ filter (is_tied z) rs)) none)

  tied_class : (z : Report) → filter (ties is_before z) (in_order is_before (rs ++ ks)) ≡ filter (ties is_before z) (ordered (ks ++ rs))
  tied_class z =
      ties_stay ranks (rs ++ ks) z ∙ filter_alike (ties is_before z) (is_tied z) (ties_tied z) (rs ++ ks) ∙ filter-append (is_tied z) rs ks
      ∙ class z (has_tied ks z) refl ∙ sym (ap ordered (filter-append (is_tied z) ks rs)) ∙ sym (picked (is_tied z) (ks ++ rs))
      ∙ sym (filter_alike (ties is_before z) (is_tied z) (ties_tied z) (ordered (ks ++ rs)))

  woven_apart : in_order is_before (rs ++ ks) ≡ ordered (ks ++ rs)
  woven_apart = one ranks (ordered (ks ++ rs)) (in_order is_before (rs ++ ks)) (ascends ranks (firsts (ks ++ rs))) (ascends ranks (rs ++ ks)) tied_class

pub ascending : (ks : List Report) → ordered ks ≡ ks → AreAscending is_before ks
ascending ks kept = subst (AreAscending is_before) kept (are_in_order ks).ascending

-- Reports may be put in order before they are put behind others.

firsts_behind : (ks rs : List Report) → firsts (ks ++ firsts rs) ≡ firsts (ks ++ rs)
firsts_behind [] rs = all_stay (firsts rs) (distinct_firsts rs)
firsts_behind (k ∷ ks) rs = ap (λ l. k ∷ filter (λ s. not (is_same k s)) l) (firsts_behind ks rs)

pub ordered_behind : (ks rs : List Report) → ordered (ks ++ ordered rs) ≡ ordered (ks ++ rs)
ordered_behind ks rs = one ranks (ordered (ks ++ rs)) (ordered (ks ++ ordered rs)) (ascends ranks (firsts (ks ++ rs))) (ascends ranks (firsts (ks ++ ordered rs))) class
  where
    class : (z : Report) → filter (ties is_before z) (ordered (ks ++ ordered rs)) ≡ filter (ties is_before z) (ordered (ks ++ rs))
    class z =
        let t = ties is_before z in
        ties_stay ranks (firsts (ks ++ ordered rs)) z ∙ picked_firsts t (ks ++ ordered rs) ∙ ap firsts (filter-append t ks (ordered rs))
        ∙ ap (λ l. firsts (filter t ks ++ l)) (ties_stay ranks (firsts rs) z ∙ picked_firsts t rs) ∙ firsts_behind (filter t ks) (filter t rs)
        ∙ sym (ap firsts (filter-append t ks rs)) ∙ sym (picked_firsts t (ks ++ rs)) ∙ sym (ties_stay ranks (firsts (ks ++ rs)) z)

pub woven_ordered : (ks rs : List Report) → ordered ks ≡ ks → some_tied ks (ordered rs) ≡ false → woven ks (ordered rs) ≡ ordered (ks ++ rs)
woven_ordered ks rs kept apart =
    woven_sorted ks (ordered rs) (ascending ks kept) (are_in_order rs).ascending ∙ woven_apart ks (ordered rs) kept (again rs) apart ∙ ordered_behind ks rs

-- What is moved from the front of a list to the end of another.

less : (n i : ℕ) → i < n → n - i ≡ suc (n - (i + 1))
less n i lt = omega (arith, lt)

pub moved : (all every rest more goal : List Report) (k : Report) (n i : ℕ) → i < n → rest ≡ k ∷ more → every ≡ all ++ k ∷ [] → all ++ take (n - i) rest ≡ goal
    → every ++ take (n - (i + 1)) more ≡ goal
moved all every rest more goal k n i lt front end h =
    ap (λ l. l ++ take (n - (i + 1)) more) end ∙ append_assoc all (k ∷ []) (take (n - (i + 1)) more)
    ∙ sym (ap (λ l. all ++ take (n - i) l) front ∙ ap (λ m. all ++ take m (k ∷ more)) (less n i lt)) ∙ h

pub moved_off : (rest more goal : List Report) (k : Report) (n i : ℕ) → i < n → rest ≡ k ∷ more → drop (n - i) rest ≡ goal → drop (n - (i + 1)) more ≡ goal
moved_off rest more goal k n i lt front h = sym (ap (drop (n - i)) front ∙ ap (λ m. drop m (k ∷ more)) (less n i lt)) ∙ h

-- none is there
no_one : (rest more : List Report) → rest ≡ more → more ≡ drop 1 rest → more ≡ []
no_one [] more same off = sym same
no_one (k ∷ rest) more same off = absurd (shorter (ap length (same ∙ off)))
  where
    shorter : suc (length rest) ≡ length rest → ⊥
    shorter e = omega (arith, e)

take_none : (n m : ℕ) (rest more : List Report) → rest ≡ [] → more ≡ [] → take m more ≡ take n rest
take_none zero zero [] [] e f = refl
take_none zero (suc m) [] [] e f = refl
take_none (suc n) zero [] [] e f = refl
take_none (suc n) (suc m) [] [] e f = refl
take_none n m (k ∷ rest) more e f = absurd cc
take_none n m [] (k ∷ more) e f = absurd cc

drop_none : (n m : ℕ) (rest more : List Report) → rest ≡ [] → more ≡ [] → drop m more ≡ drop n rest
drop_none zero zero [] [] e f = refl
drop_none zero (suc m) [] [] e f = refl
drop_none (suc n) zero [] [] e f = refl
drop_none (suc n) (suc m) [] [] e f = refl
drop_none n m (k ∷ rest) more e f = absurd cc
drop_none n m [] (k ∷ more) e f = absurd cc

pub take_ended : (n m : ℕ) (rest more : List Report) → rest ≡ more → more ≡ drop 1 rest → take m more ≡ take n rest
take_ended n m rest more same off = take_none n m rest more (same ∙ no_one rest more same off) (no_one rest more same off)

pub drop_ended : (n m : ℕ) (rest more : List Report) → rest ≡ more → more ≡ drop 1 rest → drop m more ≡ drop n rest
drop_ended n m rest more same off = drop_none n m rest more (same ∙ no_one rest more same off) (no_one rest more same off)

-- A report is put behind those that come before it.
pub put_next : (all every rest more items goal : List Report) (r : Report) → every ≡ (all ++ ahead r rest) ++ r ∷ [] → more ≡ left r rest
    → all ++ woven rest (r ∷ items) ≡ goal → every ++ woven more items ≡ goal
put_next all every rest more items goal r end off h =
    ap (λ l. l ++ woven more items) end ∙ ap (λ l. ((all ++ ahead r rest) ++ r ∷ []) ++ woven l items) off
    ∙ append_assoc (all ++ ahead r rest) (r ∷ []) (woven (left r rest) items) ∙ append_assoc all (ahead r rest) (r ∷ woven (left r rest) items) ∙ h
