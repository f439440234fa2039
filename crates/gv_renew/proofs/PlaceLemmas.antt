-- Reports at places, those at none of them, and how many of two lists are alike.
use Rattle.std.proofs.Common.{◌≡◌, ℕ, zero, suc, ◌+◌, ◌-◌, ◌<◌, ◌≤◌, Bool, true, false, cond, List, [], ◌∷◌, ◌++◌, length, get_or, map, take, drop, refl, sym, ap, subst, ◌∙◌, arith, append_assoc}
use Rattle.std.specs.Prelude.{◌≢◌, Option, None, Some, not, if◌then◌else◌, nat_eq, nat_le, slice_get}
use Rattle.std.specs.List.{cons_option, filter}
use Rattle.std.proofs.lemmas.Bool.{eqb-false, le-leb, leb-true, ne_eqb}
use Rattle.gv_facts.specs.Places.{places_from}
use Rattle.gv_report.specs.declared.report.Report.{Report}
use Rattle.gv_report.specs.Distinct.{is_before}
use Rattle.gv_renew.specs.Exchanging.{at_places, from_place, is_behind_last, without}

-- ---- what is counted

module _ {A : Type 0} where
  take_next : (n : ℕ) (xs : List A) (x : A) → n < length xs → x ≡ get_or xs n x → take (suc n) xs ≡ take n xs ++ x ∷ []
  take_next n [] x lt e = absurd (omega (arith, lt))
  take_next zero (y ∷ ys) x lt e = ap (λ z. z ∷ []) (sym e)
  take_next (suc n) (y ∷ ys) x lt e = ap (λ l. y ∷ l) (take_next n ys x (omega (arith, lt)) e)

  pub drop_next : (n : ℕ) (xs : List A) (x : A) → n < length xs → x ≡ get_or xs n x → drop n xs ≡ x ∷ drop (suc n) xs
  drop_next n [] x lt e = absurd (omega (arith, lt))
  drop_next zero (y ∷ ys) x lt e = ap (λ z. z ∷ ys) (sym e)
  drop_next (suc n) (y ∷ ys) x lt e = drop_next n ys x (omega (arith, lt)) e

module _ {A : Type 0} (f : A → Report) where
  mapped_at : (n : ℕ) (xs : List A) (x : A) → n < length xs → x ≡ get_or xs n x → f x ≡ get_or (map f xs) n (f x)
  mapped_at n [] x lt e = absurd (omega (arith, lt))
  mapped_at zero (y ∷ ys) x lt e = ap f e
  mapped_at (suc n) (y ∷ ys) x lt e = mapped_at n ys x (omega (arith, lt)) e

  as_long : (xs : List A) → length (map f xs) ≡ length xs
  as_long [] = refl
  as_long (x ∷ xs) = ap suc (as_long xs)

  pub more_alike : (xs : List A) (ys : List Report) (n : ℕ) (x : A) (y : Report) → take n (map f xs) ≡ take n ys → n < length xs → n < length ys
      → x ≡ get_or xs n x → y ≡ get_or ys n y → f x ≡ y → take (n + 1) (map f xs) ≡ take (n + 1) ys
  more_alike xs ys n x y alike lt less at there same =
      ap (λ k. take k (map f xs)) (sym (next n)) ∙ take_next n (map f xs) (f x) (let long = as_long xs in omega (arith, lt, long)) (mapped_at n xs x lt at)
      ∙ ap (λ l. l ++ f x ∷ []) alike ∙ ap (λ z. take n ys ++ z ∷ []) same ∙ sym (take_next n ys y less there) ∙ ap (λ k. take k ys) (next n)
    where
      next : (n : ℕ) → suc n ≡ n + 1
      next n = omega arith

  pub more_alike_last : (xs : List A) (ys : List Report) (n : ℕ) (x : A) (y : Report) → drop (length xs - n) (map f xs) ≡ drop (length ys - n) ys
      → n < length xs → n < length ys → x ≡ get_or xs (length xs - 1 - n) x → y ≡ get_or ys (length ys - 1 - n) y → f x ≡ y
      → drop (length xs - (n + 1)) (map f xs) ≡ drop (length ys - (n + 1)) ys
  more_alike_last xs ys n x y alike lt less at there same =
      let k = length xs - 1 - n in
      let j = length ys - 1 - n in
      ap (λ i. drop i (map f xs)) {x = length xs - (n + 1)} {y = k} (omega arith)
      ∙ drop_next k (map f xs) (f x) (let long = as_long xs in omega (arith, lt, long)) (mapped_at k xs x (omega (arith, lt)) at)
      ∙ ap (λ i. f x ∷ drop i (map f xs)) {x = suc k} {y = length xs - n} (omega (arith, lt)) ∙ ap (λ l. f x ∷ l) alike ∙ ap (λ z. z ∷ drop (length ys - n) ys) same
      ∙ sym (ap (λ i. y ∷ drop i ys) {x = suc j} {y = length ys - n} (omega (arith, less))) ∙ sym (drop_next j ys y (omega (arith, less)) there)
      ∙ ap (λ i. drop i ys) {x = j} {y = length ys - (n + 1)} (omega arith)

pub behind_is : (ts : List Report) (r t : Report) → 1 ≤ length ts → t ≡ get_or ts (length ts - 1) t → is_behind_last ts r ≡ is_before t r
behind_is [] r t there e = absurd (omega (arith, there))
behind_is (u ∷ []) r t there e = ap (λ s. is_before s r) (sym e)
behind_is (u ∷ v ∷ vs) r t there e = behind_is (v ∷ vs) r t (omega arith) (e
    ∙ ap (λ n. get_or (u ∷ v ∷ vs) n t) {x = length (u ∷ v ∷ vs) - 1} {y = suc (length (v ∷ vs) - 1)} (omega arith))

pub behind_mapped : {A : Type 0} (f : A → Report) (ts : List A) (r : Report) (t : A) → 1 ≤ length ts → t ≡ get_or ts (length ts - 1) t
    → is_behind_last (map f ts) r ≡ is_before (f t) r
behind_mapped f ts r t there e =
    behind_is (map f ts) r (f t) (let long = as_long f ts in omega (arith, there, long))
    (mapped_at f (length ts - 1) ts t (omega (arith, there)) e ∙ ap (λ n. get_or (map f ts) (n - 1) (f t)) (sym (as_long f ts)))

pub slot : (xs : List Report) (i : ℕ) (x : Report) → i < length xs → x ≡ get_or xs i x → slice_get xs i ≡ Some x
slot [] i x lt e = absurd (omega (arith, lt))
slot (y ∷ ys) zero x lt e = ap Some (sym e)
slot (y ∷ ys) (suc i) x lt e = slot ys i x (omega (arith, lt)) e

pub no_slot : (xs : List Report) (i : ℕ) → length xs ≤ i → slice_get xs i ≡ None
no_slot [] i le = refl
no_slot (y ∷ ys) zero le = absurd (omega (arith, le))
no_slot (y ∷ ys) (suc i) le = no_slot ys i (omega (arith, le))

pub one_place : (reports : List Report) (k : ℕ) (ks : List ℕ) → at_places reports (k ∷ ks) ≡ at_places reports (k ∷ []) ++ at_places reports ks
one_place reports k ks = by (slice_get reports k)
  where
    by : (o : Option Report) → cons_option o (at_places reports ks) ≡ cons_option o [] ++ at_places reports ks
    by None = refl
    by (Some r) = refl

pub place_next : (reports : List Report) (places : List ℕ) (i : ℕ) (old new : List Report) → i < length places
    → new ≡ old ++ at_places reports (get_or places i 0 ∷ []) → old ++ at_places reports (drop i places) ≡ at_places reports places
    → new ++ at_places reports (drop (i + 1) places) ≡ at_places reports places
place_next reports places i old new lt e so_far =
    ap (λ l. l ++ at_places reports (drop (i + 1) places)) e
    ∙ append_assoc old (at_places reports (get_or places i 0 ∷ [])) (at_places reports (drop (i + 1) places))
    ∙ ap (λ l. old ++ l) (sym (one_place reports (get_or places i 0) (drop (i + 1) places)) ∙ ap (at_places reports) (sym (next i places lt))) ∙ so_far
  where
    next : (i : ℕ) (ks : List ℕ) → i < length ks → drop i ks ≡ get_or ks i 0 ∷ drop (i + 1) ks
    next i [] lt = absurd (omega (arith, lt))
    next zero (k ∷ ks) lt = refl
    next (suc i) (k ∷ ks) lt = next i ks (omega (arith, lt)) ∙ ap (λ n. get_or ks i 0 ∷ drop n (k ∷ ks)) {x = suc (i + 1)} {y = suc i + 1} (omega arith)

pub nothing_left : (n : ℕ) (ks : List ℕ) (rs : List Report) → length rs ≡ 0 → without n ks rs ≡ []
nothing_left n [] [] e = refl
nothing_left n (k ∷ ks) [] e = refl
nothing_left n ks (r ∷ rs) e = absurd (omega (arith, e))

-- the report at a place that is the first of these
pub there : (n : ℕ) (ks : List ℕ) (r : Report) (rs : List Report) → without n (n ∷ ks) (r ∷ rs) ≡ without (n + 1) ks rs
there n ks r rs = ap (λ b. if b then without (n + 1) ks rs else r ∷ without (n + 1) (n ∷ ks) rs) (by (nat_eq n n) refl)
  where
    by : (b : Bool) → nat_eq n n ≡ b → nat_eq n n ≡ true
    by true e = e
    by false e = absurd (eqb-false n n e refl)

pub not_there : (n : ℕ) (ks : List ℕ) (r : Report) (rs : List Report) → ((more : List ℕ) → ks ≢ n ∷ more) → without n ks (r ∷ rs) ≡ r ∷ without (n + 1) ks rs
not_there n [] r rs none = refl
not_there n (k ∷ ks) r rs none = ap (λ b. if b then without (n + 1) ks rs else r ∷ without (n + 1) (k ∷ ks) rs) (ne_eqb k n (λ e. none ks (ap (λ i. i ∷ ks) e)))

-- ---- places

one_more : (n : ℕ) → suc n ≡ n + 1
one_more n = omega arith

at_end : {A : Type 0} (xs ys : List A) (x : A) → slice_get (xs ++ x ∷ ys) (length xs) ≡ Some x
at_end [] ys x = refl
at_end (y ∷ xs) ys x = at_end xs ys x

longer : {A : Type 0} (xs : List A) (x : A) → length (xs ++ x ∷ []) ≡ length xs + 1
longer [] x = refl
longer (y ∷ xs) x = ap suc (longer xs x) ∙ omega arith

module _ (test : Report → Bool) where
  found : (xs ys : List Report) → at_places (xs ++ ys) (places_from (length xs) test ys) ≡ filter test ys
  found xs [] = refl
  found xs (y ∷ ys) = by (test y) (subst (λ l. at_places l (places_from (length xs + 1) test ys) ≡ filter test ys) (append_assoc xs (y ∷ []) ys)
      (subst (λ n. at_places ((xs ++ y ∷ []) ++ ys) (places_from n test ys) ≡ filter test ys) (longer xs y) (found (xs ++ y ∷ []) ys)))
    where
      by : (b : Bool) → at_places (xs ++ y ∷ ys) (places_from (length xs + 1) test ys) ≡ filter test ys
          → at_places (xs ++ y ∷ ys) (if b then length xs ∷ places_from (length xs + 1) test ys else places_from (length xs + 1) test ys)
          ≡ cond b (y ∷ filter test ys) (filter test ys)
      by true h = rw (at_end xs ys y) (ap (λ l. y ∷ l) h)
      by false h = h

  pub at_all : (xs : List Report) → at_places xs (places_from 0 test xs) ≡ filter test xs
  at_all xs = found [] xs

  all_from : (n m : ℕ) (xs : List Report) → n ≤ m → from_place n (places_from m test xs) ≡ places_from m test xs
  all_from n m [] le = refl
  all_from n m (x ∷ xs) le = by (test x) (nat_le n m) (le-leb n m le) (all_from n (m + 1) xs (omega (arith, le)))
    where
      by : (b c : Bool) → c ≡ true → from_place n (places_from (m + 1) test xs) ≡ places_from (m + 1) test xs
          → from_place n (if b then m ∷ places_from (m + 1) test xs else places_from (m + 1) test xs)
          ≡ (if b then m ∷ places_from (m + 1) test xs else places_from (m + 1) test xs)
      by true c e h = rw (le-leb n m le) (ap (λ l. m ∷ l) h)
      by false c e h = h

  pub later_places : (n m : ℕ) (xs : List Report) → from_place (n + m) (places_from m test xs) ≡ places_from (n + m) test (drop n xs)
  later_places zero m xs = subst (λ k. from_place k (places_from m test xs)
      ≡ places_from k test xs) {x = m} {y = zero + m} (omega arith) (all_from m m xs (omega arith))
  later_places (suc n) m [] = refl
  later_places (suc n) m (x ∷ xs) = by (test x) (subst (λ k. from_place k (places_from (m + 1) test xs) ≡ places_from k test (drop n xs)) (omega arith) (later_places n (m + 1) xs))
    where
      short : nat_le (suc n + m) m ≡ false
      short = by_test (nat_le (suc n + m) m) refl
        where
          by_test : (b : Bool) → nat_le (suc n + m) m ≡ b → nat_le (suc n + m) m ≡ false
          by_test true e = absurd (let le = leb-true (suc n + m) m e in omega (arith, le))
          by_test false e = e

      by : (b : Bool) → from_place (suc n + m) (places_from (m + 1) test xs) ≡ places_from (suc n + m) test (drop n xs)
          → from_place (suc n + m) (if b then m ∷ places_from (m + 1) test xs else places_from (m + 1) test xs) ≡ places_from (suc n + m) test (drop n xs)
      by true h = rw short h
      by false h = h

  -- none of the places is so small
  apart : (n m : ℕ) (x : Report) (xs ys : List Report) → n < m → without n (places_from m test ys) (x ∷ xs) ≡ x ∷ without (n + 1) (places_from m test ys) xs
  apart n m x xs [] lt = refl
  apart n m x xs (y ∷ ys) lt = by (test y) (apart n (m + 1) x xs ys (omega (arith, lt)))
    where
      other : nat_eq m n ≡ false
      other = ne_eqb m n (λ e. omega (arith, e, lt))

      by : (b : Bool) → without n (places_from (m + 1) test ys) (x ∷ xs) ≡ x ∷ without (n + 1) (places_from (m + 1) test ys) xs
          → without n (if b then m ∷ places_from (m + 1) test ys else places_from (m + 1) test ys) (x ∷ xs)
          ≡ x ∷ without (n + 1) (if b then m ∷ places_from (m + 1) test ys else places_from (m + 1) test ys) xs
      by true h = rw other refl
      by false h = h

  without_none : (n m : ℕ) (ys : List Report) → without n (places_from m test ys) [] ≡ []
  without_none n m [] = refl
  without_none n m (y ∷ ys) = by (test y) (without_none n (m + 1) ys)
    where
      by : (b : Bool) → without n (places_from (m + 1) test ys) [] ≡ []
          → without n (if b then m ∷ places_from (m + 1) test ys else places_from (m + 1) test ys) [] ≡ []
      by true h = refl
      by false h = h

  pub kept_of : (n : ℕ) (xs ys : List Report) → without n (places_from n test (xs ++ ys)) xs ≡ filter (λ r. not (test r)) xs
  kept_of n [] ys = without_none n n ys
  kept_of n (x ∷ xs) ys = by (test x) (kept_of (n + 1) xs ys)
    where
      itself_eq : nat_eq n n ≡ true
      itself_eq = by_test (nat_eq n n) refl
        where
          by_test : (b : Bool) → nat_eq n n ≡ b → nat_eq n n ≡ true
          by_test true e = e
          by_test false e = absurd (eqb-false n n e refl)

      by : (b : Bool) → without (n + 1) (places_from (n + 1) test (xs ++ ys)) xs ≡ filter (λ r. not (test r)) xs
          → without n (if b then n ∷ places_from (n + 1) test (xs ++ ys) else places_from (n + 1) test (xs ++ ys)) (x ∷ xs)
          ≡ cond (not b) (x ∷ filter (λ r. not (test r)) xs) (filter (λ r. not (test r)) xs)
      by true h = rw itself_eq h
      by false h = apart n (n + 1) x xs (xs ++ ys) (omega arith) ∙ ap (λ l. x ∷ l) h
