-- Lists of texts of which none stands twice, by what a text tells.
use Rattle.std.proofs.Common.{◌≡◌, ℕ, Bool, true, false, cond, ◌||◌, List, [], ◌∷◌, ◌++◌, refl, sym, ap, ◌∙◌, map, true≢false}
use Rattle.std.specs.Prelude.{not, filter, flat_map}
use Rattle.std.specs.List.{list_all, AllByRecursion, IsDistinct}
use Rattle.std.specs.Str.{bytes_eq}
use Rattle.std.proofs.lemmas.Bool.{and_parts}
use Rattle.std.proofs.lemmas.List.Folds.{list_any-append}
use Rattle.std.proofs.lemmas.Map.Keys.{IsDistinct-head, IsDistinct-tail}
use Rattle.std.proofs.lemmas.Slice.Eq.{bytes_eq-Decides}
use Rattle.gv_base.specs.Order.{has_text}
use Rattle.gv_reload.specs.Once.{AreDistinct}
use Rattle.gv_reload.proofs.Slashes.{both}

neither : (a b : Bool) → a ≡ false → b ≡ false → (a || b) ≡ false
neither true b ea eb = ea
neither false b ea eb = eb

left_not : (a b : Bool) → (a || b) ≡ false → a ≡ false
left_not true b is = cc
left_not false b is = refl

right_not : (a b : Bool) → (a || b) ≡ false → b ≡ false
right_not true b is = cc
right_not false b is = is

pub turned : (b : Bool) → not b ≡ true → b ≡ false
turned true is = sym is
turned false is = refl

-- ---- from std's word
pub are_distinct : (xs : List (List ℕ)) → IsDistinct bytes_eq xs → AreDistinct xs
are_distinct [] d = tt
are_distinct (x ∷ xs) d = (none x xs (IsDistinct-head bytes_eq x xs d), are_distinct xs (IsDistinct-tail bytes_eq x xs d))
  where
    none : (x : List ℕ) (ys : List (List ℕ)) → AllByRecursion (λ y. bytes_eq x y ≡ false) ys → has_text ys x ≡ false
    none x [] all = refl
    none x (y ∷ ys) all = neither (bytes_eq x y) (has_text ys x) all.0 (none x ys all.1)

-- ---- a text that fails a test is none of those that pass it
pub misses : (test : List ℕ → Bool) (x : List ℕ) (ys : List (List ℕ)) → test x ≡ true → list_all (λ y. not (test y)) ys ≡ true → has_text ys x ≡ false
misses test x [] passes fail = refl
misses test x (y ∷ ys) passes fail =
    let parts = and_parts (not (test y)) (list_all (λ z. not (test z)) ys) fail in
    neither (bytes_eq x y) (has_text ys x) (by (bytes_eq x y) refl parts.0) (misses test x ys passes parts.1)
  where
    by : (e : Bool) → bytes_eq x y ≡ e → not (test y) ≡ true → e ≡ false
    by true is fails = absurd (true≢false (sym passes ∙ ap test ((bytes_eq-Decides x y).0 is) ∙ turned (test y) fails))
    by false is fails = refl

-- ---- two lists that a test tells apart
pub two_apart : (test : List ℕ → Bool) (xs ys : List (List ℕ)) → list_all test xs ≡ true → list_all (λ y. not (test y)) ys ≡ true → AreDistinct xs → AreDistinct ys → AreDistinct (xs ++ ys)
two_apart test [] ys px py dx dy = dy
two_apart test (x ∷ xs) ys px py dx dy =
    let parts = and_parts (test x) (list_all test xs) px in
    ((list_any-append (bytes_eq x) xs ys ∙ neither (has_text xs x) (has_text ys x) dx.0 (misses test x ys parts.0 py)), two_apart test xs ys parts.1 py dx.1 dy)

-- ---- groups that tell whose they are
all_both : (test : List ℕ → Bool) (xs ys : List (List ℕ)) → list_all test xs ≡ true → list_all test ys ≡ true → list_all test (xs ++ ys) ≡ true
all_both test [] ys px py = py
all_both test (x ∷ xs) ys px py =
    let parts = and_parts (test x) (list_all test xs) px in
    both (test x) (list_all test (xs ++ ys)) parts.0 (all_both test xs ys parts.1 py)

module _ (key : List ℕ → List ℕ) (group : List ℕ → List (List ℕ)) (valid : List ℕ → Bool)
    (told : (k : List ℕ) → valid k ≡ true → list_all (λ x. bytes_eq (key x) k) (group k) ≡ true)
    (apart : (k : List ℕ) → valid k ≡ true → AreDistinct (group k)) where
  other : (n k : List ℕ) (xs : List (List ℕ)) → bytes_eq n k ≡ false → list_all (λ x. bytes_eq (key x) k) xs ≡ true → list_all (λ x. not (bytes_eq (key x) n)) xs ≡ true
  other n k [] differ all = refl
  other n k (x ∷ xs) differ all =
      let parts = and_parts (bytes_eq (key x) k) (list_all (λ y. bytes_eq (key y) k) xs) all in
      both (not (bytes_eq (key x) n)) (list_all (λ y. not (bytes_eq (key y) n)) xs) (by (bytes_eq (key x) n) refl parts.0) (other n k xs differ parts.1)
    where
      by : (e : Bool) → bytes_eq (key x) n ≡ e → bytes_eq (key x) k ≡ true → not e ≡ true
      by true is that =
          let same : n ≡ k = sym ((bytes_eq-Decides (key x) n).0 is) ∙ (bytes_eq-Decides (key x) k).0 that in
          absurd (true≢false (sym ((bytes_eq-Decides n k).1 same) ∙ differ))
      by false is that = refl

  all_other : (n : List ℕ) (ks : List (List ℕ)) → has_text ks n ≡ false → list_all valid ks ≡ true → list_all (λ x. not (bytes_eq (key x) n)) (flat_map group ks) ≡ true
  all_other n [] none are = refl
  all_other n (k ∷ ks) none are =
      let parts = and_parts (valid k) (list_all valid ks) are in
      all_both (λ x. not (bytes_eq (key x) n)) (group k) (flat_map group ks) (other n k (group k) (left_not (bytes_eq n k) (has_text ks n) none) (told k parts.0))
      (all_other n ks (right_not (bytes_eq n k) (has_text ks n) none) parts.1)

  pub groups_apart : (ks : List (List ℕ)) → list_all valid ks ≡ true → AreDistinct ks → AreDistinct (flat_map group ks)
  groups_apart [] are d = tt
  groups_apart (k ∷ ks) are d =
      let parts = and_parts (valid k) (list_all valid ks) are in
      two_apart (λ x. bytes_eq (key x) k) (group k) (flat_map group ks) (told k parts.0) (all_other k ks d.0 parts.1) (apart k parts.0) (groups_apart ks parts.1 d.1)

-- ---- what all groups have
pub all_groups : (test : List ℕ → Bool) (group : List ℕ → List (List ℕ)) (valid : List ℕ → Bool) → ((k : List ℕ) → valid k ≡ true → list_all test (group k) ≡ true) → (ks : List (List ℕ)) → list_all valid ks ≡ true →
    list_all test (flat_map group ks) ≡ true
all_groups test group valid each [] are = refl
all_groups test group valid each (k ∷ ks) are =
    let parts = and_parts (valid k) (list_all valid ks) are in
    all_both test (group k) (flat_map group ks) (each k parts.0) (all_groups test group valid each ks parts.1)

-- ---- a filter, and a map that can be undone
filtered_out : (test : List ℕ → Bool) (n : List ℕ) (xs : List (List ℕ)) → has_text xs n ≡ false → has_text (filter test xs) n ≡ false
filtered_out test n [] none = refl
filtered_out test n (x ∷ xs) none = by (test x) (filtered_out test n xs (right_not (bytes_eq n x) (has_text xs n) none))
  where
    by : (b : Bool) → has_text (filter test xs) n ≡ false → has_text (cond b (x ∷ filter test xs) (filter test xs)) n ≡ false
    by true rest = neither (bytes_eq n x) (has_text (filter test xs) n) (left_not (bytes_eq n x) (has_text xs n) none) rest
    by false rest = rest

pub filter_distinct : (test : List ℕ → Bool) (xs : List (List ℕ)) → AreDistinct xs → AreDistinct (filter test xs)
filter_distinct test [] d = tt
filter_distinct test (x ∷ xs) d = by (test x) (filter_distinct test xs d.1)
  where
    by : (b : Bool) → AreDistinct (filter test xs) → AreDistinct (cond b (x ∷ filter test xs) (filter test xs))
    by true rest = (filtered_out test x xs d.0, rest)
    by false rest = rest

mapped_out : (f back : List ℕ → List ℕ) → ((x : List ℕ) → back (f x) ≡ x) → (n : List ℕ) (xs : List (List ℕ)) → has_text xs n ≡ false → has_text (map f xs) (f n) ≡ false
mapped_out f back law n [] none = refl
mapped_out f back law n (x ∷ xs) none =
    neither (bytes_eq (f n) (f x)) (has_text (map f xs) (f n)) (by (bytes_eq (f n) (f x)) refl) (mapped_out f back law n xs (right_not (bytes_eq n x) (has_text xs n) none))
  where
    by : (e : Bool) → bytes_eq (f n) (f x) ≡ e → e ≡ false
    by true is =
        let same : n ≡ x = sym (law n) ∙ ap back ((bytes_eq-Decides (f n) (f x)).0 is) ∙ law x in
        absurd (true≢false (sym ((bytes_eq-Decides n x).1 same) ∙ left_not (bytes_eq n x) (has_text xs n) none))
    by false is = refl

pub map_distinct : (f back : List ℕ → List ℕ) → ((x : List ℕ) → back (f x) ≡ x) → (xs : List (List ℕ)) → AreDistinct xs → AreDistinct (map f xs)
map_distinct f back law [] d = tt
map_distinct f back law (x ∷ xs) d = (mapped_out f back law x xs d.0, map_distinct f back law xs d.1)
