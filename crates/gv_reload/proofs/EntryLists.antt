-- Lists in order, and what of them passes a test.
use Rattle.std.proofs.Common.{◌≡◌, ℕ, Bool, true, false, cond, ◌&&◌, ◌||◌, List, [], ◌∷◌, ◌⊎◌, inl, inr, refl, sym, ap, ◌∙◌, map, true≢false}
use Rattle.std.specs.Prelude.{fold, filter, flat_map}
use Rattle.std.specs.List.{AllByRecursion}
use Rattle.std.specs.List.Sorted.{IsStrictlySortedBy}
use Rattle.std.specs.BTreeSet.{insert_key}
use Rattle.std.specs.Cmp.{IsTotalOrder}
use Rattle.std.specs.Ordering.{match_ordering}
use Rattle.std.specs.Str.{bytes_eq}
use Rattle.std.specs.declared.cmp.Ordering.{Ordering}
use Rattle.std.specs.declared.cmp.Ordering.TheVariants.{Less, Equal, Greater}
use Rattle.std.proofs.lemmas.List.Folds.{list_any-append}
use Rattle.std.proofs.lemmas.Map.Views.{any-filter_same}
use Rattle.std.proofs.lemmas.Slice.Eq.{bytes_eq-Decides}
use Rattle.gv_base.specs.Order.{has_text}
use Rattle.gv_load.specs.MemberLemmas.{ascends_put, below_all}
use Rattle.gv_load.specs.ListLemmas.{itself, on_left, on_right}
use Rattle.gv_base.specs.Folders.{or_cases}

-- ---- texts
pub has_filter : (test : List ℕ → Bool) (xs : List (List ℕ)) (text : List ℕ) → has_text (filter test xs) text ≡ (test text && has_text xs text)
has_filter test xs text = any-filter_same (bytes_eq text) test (test text) (λ k h. ap test (sym ((bytes_eq-Decides text k).0 h))) xs

pub in_flat : (f : List ℕ → List (List ℕ)) (xs : List (List ℕ)) (x text : List ℕ) → has_text xs x ≡ true → has_text (f x) text ≡ true → has_text (flat_map f xs) text ≡ true
in_flat f [] x text here there = cc
in_flat f (y ∷ ys) x text here there = list_any-append (bytes_eq text) (f y) (flat_map f ys) ∙ by (or_cases (bytes_eq x y) (has_text ys x) here) (λ h. in_flat f ys x text h there)
  where
    by : (bytes_eq x y ≡ true) ⊎ (has_text ys x ≡ true) → (has_text ys x ≡ true → has_text (flat_map f ys) text ≡ true) → (has_text (f y) text || has_text (flat_map f ys) text) ≡ true
    by (inl is) later = on_left (has_text (f y) text) _ (ap (λ z. has_text (f z) text) (sym ((bytes_eq-Decides x y).0 is)) ∙ there)
    by (inr is) later = on_right (has_text (f y) text) _ (later is)

pub map_same : {B : Type 0} (f g : List ℕ → B) (xs : List (List ℕ)) → ((x : List ℕ) → has_text xs x ≡ true → f x ≡ g x) → map f xs ≡ map g xs
map_same f g [] same = refl
map_same f g (x ∷ xs) same = ap (λ y. y ∷ map f xs) (same x (itself x xs)) ∙ ap (λ ys. g x ∷ ys) (map_same f g xs (λ y is. same y (on_right (bytes_eq y x) (has_text xs y) is)))

pub filter_mapped : {A B : Type 0} (test : B → Bool) (f : A → B) (xs : List A) → filter test (map f xs) ≡ map f (filter (λ x. test (f x)) xs)
filter_mapped test f [] = refl
filter_mapped {A = A} {B = B} test f (x ∷ xs) = by (test (f x)) (filter_mapped test f xs)
  where
    by : (b : Bool) → filter test (map f xs) ≡ map f (filter (λ y. test (f y)) xs) →
        cond b (f x ∷ filter test (map f xs)) (filter test (map f xs)) ≡ map f (cond b (x ∷ filter (λ y. test (f y)) xs) (filter (λ y. test (f y)) xs))
    by true same = ap (λ ys. f x ∷ ys) same
    by false same = same

-- ---- what is put in order has what each had
module _ {K : Type 0} (cmp : K → K → Ordering) (P : K → Type 0) where
  has_put : (ks : List K) (k : K) → P k → AllByRecursion P ks → AllByRecursion P (insert_key cmp ks k)
  has_put [] k p a = (p, tt)
  has_put (x ∷ xs) k p a = by (cmp k x) (has_put xs k p a.1)
    where
      by : (r : Ordering) → AllByRecursion P (insert_key cmp xs k) → AllByRecursion P (match_ordering r (k ∷ x ∷ xs) (x ∷ xs) (x ∷ insert_key cmp xs k))
      by Less h = (p, a)
      by Equal h = a
      by Greater h = (a.0, h)

  pub have_all : (xs ks : List K) → AllByRecursion P xs → AllByRecursion P ks → AllByRecursion P (fold (insert_key cmp) ks xs)
  have_all [] ks ax ak = ak
  have_all (x ∷ xs) ks ax ak = have_all xs (insert_key cmp ks x) ax.1 (has_put ks x ax.0 ak)

-- ---- a test that doesn't tell apart what the order doesn't
module _ {K : Type 0} {cmp : K → K → Ordering} (total : IsTotalOrder cmp) (test : K → Bool) (alike : (x y : K) → cmp x y ≡ Equal → test x ≡ test y) where
  put_front : (k : K) (ys : List K) → AllByRecursion (λ y. cmp k y ≡ Less) ys → insert_key cmp ys k ≡ k ∷ ys
  put_front k [] a = refl
  put_front k (y ∷ ys) a = ap (λ r. match_ordering r (k ∷ y ∷ ys) (y ∷ ys) (y ∷ insert_key cmp ys k)) a.0

  less_kept : (k : K) (ys : List K) → AllByRecursion (λ y. cmp k y ≡ Less) ys → AllByRecursion (λ y. cmp k y ≡ Less) (filter test ys)
  less_kept k [] a = tt
  less_kept k (y ∷ ys) a = by (test y) (less_kept k ys a.1)
    where
      by : (b : Bool) → AllByRecursion (λ z. cmp k z ≡ Less) (filter test ys) → AllByRecursion (λ z. cmp k z ≡ Less) (cond b (y ∷ filter test ys) (filter test ys))
      by true h = (a.0, h)
      by false h = h

  put_kept : (ks : List K) (k : K) → IsStrictlySortedBy cmp ks → filter test (insert_key cmp ks k) ≡ cond (test k) (insert_key cmp (filter test ks) k) (filter test ks)
  unfolding IsStrictlySortedBy
  put_kept [] k a = refl
  put_kept (x ∷ xs) k a = by (cmp k x) refl (test k) refl (test x) refl (put_kept xs k a.1)
    where
      by : (r : Ordering) → cmp k x ≡ r → (tk : Bool) → test k ≡ tk → (tx : Bool) → test x ≡ tx → filter test (insert_key cmp xs k) ≡ cond tk (insert_key cmp (filter test xs) k) (filter test xs) →
          filter test (match_ordering r (k ∷ x ∷ xs) (x ∷ xs) (x ∷ insert_key cmp xs k)) ≡ cond tk (insert_key cmp (cond tx (x ∷ filter test xs) (filter test xs)) k) (cond tx (x ∷ filter test xs) (filter test xs))
      by Less e true ek true ex h = rw (ek, ex, e) refl
      by Less e true ek false ex h = rw (ek, ex) (sym (put_front k (filter test xs) (less_kept k xs (below_all total k x xs e a.0))))
      by Less e false ek true ex h = rw (ek, ex) refl
      by Less e false ek false ex h = rw (ek, ex) refl
      by Equal e true ek true ex h = rw (ex, e) refl
      by Equal e true ek false ex h = absurd (true≢false (sym ek ∙ alike k x e ∙ ex))
      by Equal e false ek true ex h = absurd (true≢false (sym ex ∙ sym (alike k x e) ∙ ek))
      by Equal e false ek false ex h = rw ex refl
      by Greater e true ek true ex h = rw (ex, e) (ap (λ ys. x ∷ ys) h)
      by Greater e true ek false ex h = rw ex h
      by Greater e false ek true ex h = rw ex (ap (λ ys. x ∷ ys) h)
      by Greater e false ek false ex h = rw ex h

  all_kept : (xs ks : List K) → IsStrictlySortedBy cmp ks → filter test (fold (insert_key cmp) ks xs) ≡ fold (insert_key cmp) (filter test ks) (filter test xs)
  all_kept [] ks a = refl
  all_kept (x ∷ xs) ks a =
      all_kept xs (insert_key cmp ks x) (ascends_put total ks x a) ∙ ap (λ ys. fold (insert_key cmp) ys (filter test xs)) (put_kept ks x a) ∙ by (test x)
    where
      by : (b : Bool) → fold (insert_key cmp) (cond b (insert_key cmp (filter test ks) x) (filter test ks)) (filter test xs) ≡ fold (insert_key cmp) (filter test ks) (cond b (x ∷ filter test xs) (filter test xs))
      by true = refl
      by false = refl

  pub order_kept : (xs : List K) → filter test (fold (insert_key cmp) [] xs) ≡ fold (insert_key cmp) [] (filter test xs)
  unfolding IsStrictlySortedBy
  order_kept xs = all_kept xs [] tt
