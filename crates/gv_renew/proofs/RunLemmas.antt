-- Reports of one category stand together, and in it those of one package; and the places of stale ones are found run by run.
use Rattle.std.proofs.Common.{◌≡◌, ℕ, zero, suc, ◌+◌, ◌<◌, ◌≤◌, Bool, true, false, not, ◌&&◌, if◌then◌else◌, List, [], ◌∷◌, ◌++◌, length, take, arith, refl, sym, ap, subst, ◌∙◌, append_assoc, append-nil, length-append}
use Rattle.std.specs.Prelude.{slice_index_or}
use Rattle.std.specs.List.{AllByRecursion, AllWithin, list_all}
use Rattle.std.specs.List.Sorted.{IsPartitionedBy}
use Rattle.std.specs.Cmp.Lexicographic.{nat_list_cmp_total}
use Rattle.std.specs.Ordering.{eq_by_cmp, is_eq, is_lt, ordering_reverse, ordering_then}
use Rattle.std.specs.Str.{bytes_eq}
use Rattle.std.specs.declared.cmp.Ordering.{Ordering}
use Rattle.std.specs.declared.cmp.Ordering.TheVariants.{Less, Equal, Greater}
use Rattle.std.proofs.lemmas.Bool.{and_parts, false≢true, true≢false}
use Rattle.std.proofs.lemmas.Map.Lookups.{exact_bytes}
use Rattle.std.proofs.lemmas.Slice.Eq.{bytes_eq-Decides}
use Rattle.gv_base.specs.Order.{byte_cmp}
use Rattle.gv_version.specs.Order.{compare}
use Rattle.gv_facts.specs.Places.{places_from}
use Rattle.gv_reload.specs.EntryEdits.{is_about}
use Rattle.gv_report.specs.Distinct.{is_before}
use Rattle.gv_report.specs.Order.{kind_cmp, report_cmp, subject_cmp}
use Rattle.gv_report.specs.OrderTotal.{report_total, subject_total}
use Rattle.gv_report.specs.Sorting.{AreAscending}
use Rattle.gv_report.specs.declared.report.Report.{Report}
use Rattle.gv_report.specs.declared.report.Subject.{Subject}
use Rattle.gv_report.specs.declared.report.Subject.TheVariants.{Package, Place}
use Rattle.gv_renew.specs.Lasting.{are_together, is_of, IsLeft}

-- ---- what stands between reports of one category is of it
not_true : (b : Bool) → not b ≡ true → b ≡ false
not_true true h = sym h
not_true false h = refl

both : (a b : Bool) → a ≡ true → b ≡ true → (a && b) ≡ true
both true b e f = f
both false b e f = e

first_not : (a b : Ordering) → is_lt (ordering_then a b) ≡ false → is_lt a ≡ false
first_not Less b e = e
first_not Equal b e = refl
first_not Greater b e = refl

pub same : (c d : List ℕ) → bytes_eq c d ≡ true → c ≡ d
same c d e = (bytes_eq-Decides c d).0 e

neither : (c d : List ℕ) → is_lt (byte_cmp c d) ≡ false → is_lt (byte_cmp d c) ≡ false → bytes_eq c d ≡ true
neither c d e f = by (byte_cmp c d) refl
  where
    by : (r : Ordering) → byte_cmp c d ≡ r → bytes_eq c d ≡ true
    by Less is = absurd (true≢false (sym (ap is_lt is) ∙ e))
    by Equal is = (bytes_eq-Decides c d).1 (exact_bytes c d is)
    by Greater is = absurd (true≢false (sym (ap is_lt (nat_list_cmp_total.antisymm d c ∙ ap ordering_reverse is)) ∙ f))

in_category : (s t u : Subject) → is_lt (subject_cmp t s) ≡ false → is_lt (subject_cmp u t) ≡ false → are_together s u ≡ true → are_together s t ≡ true
in_category (Place p l) (Place q m) u a b e = refl
in_category (Place p l) (Package d m w g) (Place r k) a b e = sym b
in_category (Place p l) (Package d m w g) (Package x y z h) a b e = e
in_category (Package c n v f) (Place q m) u a b e = sym a
in_category (Package c n v f) (Package d m w g) (Place r k) a b e = absurd (true≢false (sym e))
in_category (Package c n v f) (Package d m w g) (Package x y z h) a b e =
    let below = first_not (byte_cmp d c) (ordering_then (byte_cmp m n) (ordering_then (compare w v) (byte_cmp g f))) a in
    let above = first_not (byte_cmp x d) (ordering_then (byte_cmp y m) (ordering_then (compare z w) (byte_cmp h g))) b in
    neither c d (ap (λ o. is_lt (byte_cmp o d)) (same c x e) ∙ above) below

-- and between reports of one package
pub is_equal : (o : Ordering) → is_eq o ≡ true → o ≡ Equal
is_equal Less e = absurd (false≢true e)
is_equal Equal e = refl
is_equal Greater e = absurd (false≢true e)

in_package : (s t u : Subject) → is_lt (subject_cmp t s) ≡ false → is_lt (subject_cmp u t) ≡ false → eq_by_cmp subject_cmp s u ≡ true
    → eq_by_cmp subject_cmp s t ≡ true
in_package s t u a b e = by (subject_cmp s t) refl
  where
    by : (o : Ordering) → subject_cmp s t ≡ o → eq_by_cmp subject_cmp s t ≡ true
    by Less is = absurd (true≢false (sym (ap is_lt (sym (subject_total.congr s u t (is_equal (subject_cmp s u) e)) ∙ is)) ∙ b))
    by Equal is = ap is_eq is
    by Greater is = absurd (true≢false (sym (ap is_lt (subject_total.antisymm t s ∙ ap ordering_reverse is)) ∙ a))

-- so that those of the first one's stand in front
not_before : (r s : Report) → is_before r s ≡ false → is_lt (subject_cmp r.subject s.subject) ≡ false
not_before r s e = first_not (subject_cmp r.subject s.subject) (kind_cmp r s) e

itself : (r : Report) → is_before r r ≡ false
itself r = by (report_cmp r r) refl
  where
    by : (o : Ordering) → report_cmp r r ≡ o → is_lt (report_cmp r r) ≡ false
    by Less is = absurd (true≢false (sym (ap is_lt is) ∙ ap is_lt (report_total.antisymm r r ∙ ap ordering_reverse is)))
    by Equal is = ap is_lt is
    by Greater is = ap is_lt is

all_at : (p : Report → Bool) (xs : List Report) (i : ℕ) (d : Report) → list_all p xs ≡ true → i < length xs → p (slice_index_or xs i d) ≡ true
all_at p [] i d all lt = absurd (omega (arith, lt))
all_at p (x ∷ xs) zero d all lt = (and_parts (p x) (list_all p xs) all).0
all_at p (x ∷ xs) (suc i) d all lt = all_at p xs i d (and_parts (p x) (list_all p xs) all).1 (omega (arith, lt))

module _ (together : Subject → Subject → Bool)
    (between : (s t u : Subject) → is_lt (subject_cmp t s) ≡ false → is_lt (subject_cmp u t) ≡ false → together s u ≡ true → together s t ≡ true) where
  parted_behind : (f : Report) (xs : List Report) → AreAscending is_before xs → list_all (λ r. not (is_before r f)) xs ≡ true
      → IsPartitionedBy (λ (r : Report). together f.subject r.subject) xs
  parted_behind f [] up far i j d le lt e = absurd (omega (arith, lt))
  parted_behind f (x ∷ xs) up far zero zero d le lt e = e
  parted_behind f (x ∷ xs) up far zero (suc j) d le lt e =
      let last = slice_index_or xs j d in
      let first = not_true (is_before x f) (and_parts (not (is_before x f)) (list_all (λ r. not (is_before r f)) xs) far).0 in
      let later = not_true (is_before last x) (all_at (λ r. not (is_before r x)) xs j d up.0 (omega (arith, lt))) in
      between f.subject x.subject last.subject (not_before x f first) (not_before last x later) e
  parted_behind f (x ∷ xs) up far (suc i) zero d le lt e = absurd (omega (arith, le))
  parted_behind f (x ∷ xs) up far (suc i) (suc j) d le lt e =
      parted_behind f xs up.1 (and_parts (not (is_before x f)) (list_all (λ r. not (is_before r f)) xs) far).1 i j d (omega (arith, le)) (omega (arith, lt)) e

  parted : (f : Report) (xs : List Report) → f ≡ slice_index_or xs 0 f → AreAscending is_before xs → IsPartitionedBy (λ (r : Report). together f.subject r.subject) xs
  parted f [] is up = λ i j d le lt e. absurd (omega (arith, lt))
  parted f (x ∷ xs) is up =
      let first = both (not (is_before x x)) (list_all (λ r. not (is_before r x)) xs) (ap not (itself x)) up.0 in
      subst (λ (g : Report). IsPartitionedBy (λ (r : Report). together g.subject r.subject) (x ∷ xs)) (sym is) (parted_behind x (x ∷ xs) up first)

pub categories_parted : (f : Report) (xs : List Report) → f ≡ slice_index_or xs 0 f → AreAscending is_before xs → IsPartitionedBy (is_of f.subject) xs
categories_parted = parted are_together in_category

pub packages_parted : (f : Report) (xs : List Report) → f ≡ slice_index_or xs 0 f → AreAscending is_before xs → IsPartitionedBy (is_about f.subject) xs
packages_parted = parted (eq_by_cmp subject_cmp) in_package

pub category_itself : (s : Subject) → are_together s s ≡ true
category_itself (Place p l) = refl
category_itself (Package c n v f) = (bytes_eq-Decides c c).1 refl

pub package_itself : (s : Subject) → eq_by_cmp subject_cmp s s ≡ true
package_itself s = by (subject_cmp s s) refl
  where
    by : (o : Ordering) → subject_cmp s s ≡ o → eq_by_cmp subject_cmp s s ≡ true
    by Less is = absurd (true≢false (sym (ap is_lt is) ∙ ap is_lt (subject_total.antisymm s s ∙ ap ordering_reverse is)))
    by Equal is = ap is_eq is
    by Greater is = absurd (true≢false (sym (ap is_lt (subject_total.antisymm s s ∙ ap ordering_reverse is)) ∙ ap is_lt is))

-- ---- the reports in front that stand together with the first
module _ (together : Subject → Subject → Bool) where
  pub some_here : ((s : Subject) → together s s ≡ true) → (f : Report) (xs : List Report) (n : ℕ) → f ≡ slice_index_or xs 0 f → 1 ≤ length xs
      → AllWithin (λ (r : Report). together f.subject r.subject ≡ false) xs n (length xs) → 1 ≤ n
  some_here with_itself f xs zero is there fail =
      let here : together f.subject (slice_index_or xs 0 f).subject ≡ true = ap (λ (g : Report). together f.subject g.subject) (sym is) ∙ with_itself f.subject in
      absurd (true≢false (sym here ∙ fail 0 f (omega arith) (omega (arith, there))))
  some_here with_itself f xs (suc n) is there fail = omega arith

  pub all_far : (may : Subject → Bool) → ((s t : Subject) → together s t ≡ true → may t ≡ may s) → (s : Subject) (n : ℕ) (xs : List Report) → may s ≡ false
      → AllWithin (λ (r : Report). together s r.subject ≡ true) xs 0 n → AllByRecursion (λ (r : Report). may r.subject ≡ false) (take n xs)
  all_far may alike s zero xs far all = tt
  all_far may alike s (suc n) [] far all = tt
  all_far may alike s (suc n) (x ∷ xs) far all =
      let rest = all_far may alike s n xs far (λ k d low high. all (suc k) d (omega arith) (omega (arith, high))) in
      (alike s x.subject (all 0 x (omega arith) (omega arith)) ∙ far, rest)

-- ---- what ascends in parts
all_front : (p : Report → Bool) (xs ys : List Report) → list_all p (xs ++ ys) ≡ true → list_all p xs ≡ true
all_front p [] ys all = refl
all_front p (x ∷ xs) ys all =
    let parts = and_parts (p x) (list_all p (xs ++ ys)) all in
    both (p x) (list_all p xs) parts.0 (all_front p xs ys parts.1)

pub ascending_front : (xs ys : List Report) → AreAscending is_before (xs ++ ys) → AreAscending is_before xs
ascending_front [] ys up = tt
ascending_front (x ∷ xs) ys up = (all_front (λ y. not (is_before y x)) xs ys up.0, ascending_front xs ys up.1)

ascending_behind : (xs ys : List Report) → AreAscending is_before (xs ++ ys) → AreAscending is_before ys
ascending_behind [] ys up = up
ascending_behind (x ∷ xs) ys up = ascending_behind xs ys up.1

-- ---- places
module _ (test : Report → Bool) where
  places_none : (n : ℕ) (xs : List Report) → AllByRecursion (λ (r : Report). test r ≡ false) xs → places_from n test xs ≡ []
  places_none n [] all = refl
  places_none n (x ∷ xs) all = ap (λ b. if b then n ∷ places_from (n + 1) test xs else places_from (n + 1) test xs) all.0 ∙ places_none (n + 1) xs all.1

  -- where none passes nothing is added
  pub none_added : (n : ℕ) (xs : List Report) (places : List ℕ) → AllByRecursion (λ (r : Report). test r ≡ false) xs → places ≡ places ++ places_from n test xs
  none_added n xs places all = sym (append-nil places) ∙ ap (λ l. places ++ l) (sym (places_none n xs all))

  places_append : (n : ℕ) (xs ys : List Report) → places_from n test (xs ++ ys) ≡ places_from n test xs ++ places_from (n + length xs) test ys
  places_append n [] ys = ap (λ k. places_from k test ys) (omega arith)
  places_append n (x ∷ xs) ys = by (test x) (places_append (n + 1) xs ys ∙ ap (λ k. places_from (n + 1) test xs ++ places_from k test ys) (omega arith))
    where
      by : (b : Bool) → places_from (n + 1) test (xs ++ ys) ≡ places_from (n + 1) test xs ++ places_from (n + length (x ∷ xs)) test ys
          → (if b then n ∷ places_from (n + 1) test (xs ++ ys) else places_from (n + 1) test (xs ++ ys))
          ≡ (if b then n ∷ places_from (n + 1) test xs else places_from (n + 1) test xs) ++ places_from (n + length (x ∷ xs)) test ys
      by true h = ap (λ l. n ∷ l) h
      by false h = h

  -- one run further
  module _ (start : ℕ) (all : List Report) (old : List ℕ) where
    pub left_behind : (at : ℕ) (rest here behind : List Report) (places now : List ℕ) → IsLeft test start all old at rest places → rest ≡ here ++ behind
        → now ≡ places ++ places_from at test here → IsLeft test start all old (at + length here) behind now
    left_behind at rest here behind places now left parts added =
        let whole = ap length parts in
        let sum = length-append here behind in
        let before = left.fits in
        record {
          order = ascending_behind here behind (subst (AreAscending is_before) parts left.order);
          fits = omega (arith, whole, sum, before);
          places_are = ap (λ l. l ++ places_from (at + length here) test behind) added
              ∙ append_assoc places (places_from at test here) (places_from (at + length here) test behind)
              ∙ ap (λ l. places ++ l) (sym (places_append at here behind) ∙ ap (places_from at test) (sym parts)) ∙ left.places_are;
        }
