-- Lemmas, no rule, for this crate and those above: tests, lists, and lists of texts taken as sets.
use Rattle.std.proofs.Common.{◌≡◌, ℕ, ◌+◌, ◌<◌, zero, suc, List, [], ◌∷◌, ◌++◌, Bool, true, false, cond, ◌||◌, Some, None, length, drop, get_or, drop-cons, add-one, refl, sym, ap, ◌∙◌}
use Rattle.std.specs.Prelude.{filter, slice_get}
use Rattle.std.specs.List.{list_all}
use Rattle.std.specs.Str.{bytes_eq}
use Rattle.std.proofs.lemmas.Bool.{and_from}
use Rattle.std.proofs.lemmas.List.Folds.{list_any-append}
use Rattle.std.proofs.lemmas.Option.{slice_get_read, slice_get_within, get_or_from_slice_get}
use Rattle.std.proofs.lemmas.Slice.Eq.{bytes_eq-Decides}
use Rattle.gv_base.specs.Order.{has_text}

-- ---- tests
pub by_case : {X : Type 0} (a b : Bool) → (a || b) ≡ true → (a ≡ true → X) → (b ≡ true → X) → X
by_case true b is left right = left refl
by_case false b is left right = right is

pub on_left : (a b : Bool) → a ≡ true → (a || b) ≡ true
on_left true b is = refl
on_left false b is = cc

pub on_right : (a b : Bool) → b ≡ true → (a || b) ≡ true
on_right true b is = refl
on_right false b is = is

-- ---- texts that a list has
in_both : (xs ys : List (List ℕ)) (p : List ℕ) → has_text (xs ++ ys) p ≡ (has_text xs p || has_text ys p)
in_both xs ys p = list_any-append (bytes_eq p) xs ys

pub in_front : (xs ys : List (List ℕ)) (p : List ℕ) → has_text xs p ≡ true → has_text (xs ++ ys) p ≡ true
in_front xs ys p is = in_both xs ys p ∙ on_left _ (has_text ys p) is

pub in_back : (xs ys : List (List ℕ)) (p : List ℕ) → has_text ys p ≡ true → has_text (xs ++ ys) p ≡ true
in_back xs ys p is = in_both xs ys p ∙ on_right (has_text xs p) _ is

pub in_either : {X : Type 0} (xs ys : List (List ℕ)) (p : List ℕ) → has_text (xs ++ ys) p ≡ true → (has_text xs p ≡ true → X) → (has_text ys p ≡ true → X) → X
in_either xs ys p is left right = by_case (has_text xs p) (has_text ys p) (sym (in_both xs ys p) ∙ is) left right

pub itself : (name : List ℕ) (names : List (List ℕ)) → has_text (name ∷ names) name ≡ true
itself name names = ap (λ b. b || has_text names name) ((bytes_eq-Decides name name).1 refl)

or_last : (a b : Bool) → (a || (b || false)) ≡ (b || a)
or_last true true = refl
or_last true false = refl
or_last false true = refl
or_last false false = refl

pub has_last : (order : List (List ℕ)) (dir text : List ℕ) → has_text (order ++ dir ∷ []) text ≡ (bytes_eq text dir || has_text order text)
has_last order dir text = list_any-append (bytes_eq text) order (dir ∷ []) ∙ or_last (has_text order text) (bytes_eq text dir)

pub same_bytes : (x y : List ℕ) → bytes_eq x y ≡ true → x ≡ y
same_bytes x y is = (bytes_eq-Decides x y).0 is

-- ---- what is left of a list
module _ {X : Type 0} where
  pub dropped : (xs : List X) (i : ℕ) (x : X) → slice_get xs i ≡ Some x → drop i xs ≡ x ∷ drop (i + 1) xs
  dropped xs i x there =
      let lt : i < length xs = slice_get_within xs i x there in
      let at : get_or xs i x ≡ x = get_or_from_slice_get xs i x x there in
      drop-cons xs i x lt ∙ ap (λ y. y ∷ drop (suc i) xs) at ∙ ap (λ n. x ∷ drop n xs) (sym (add-one i))

  pub read_at : (xs : List X) (i : ℕ) (x : X) → i < length xs → x ≡ get_or xs i x → slice_get xs i ≡ Some x
  read_at xs i x within is = slice_get_read xs (length xs) i x refl within is

  pub nothing_dropped : (xs : List X) (i : ℕ) → slice_get xs i ≡ None → drop i xs ≡ []
  nothing_dropped [] zero none = refl
  nothing_dropped [] (suc i) none = refl
  nothing_dropped (x ∷ xs) zero none = cc
  nothing_dropped (x ∷ xs) (suc i) none = nothing_dropped xs i none

-- what passes a test passes it
pub all_pass : {A : Type 0} → (test : A → Bool) (xs : List A) → list_all test (filter test xs) ≡ true
all_pass test [] = refl
all_pass test (x ∷ xs) = by (test x) refl (all_pass test xs)
  where
    by : (b : Bool) → test x ≡ b → list_all test (filter test xs) ≡ true → list_all test (cond b (x ∷ filter test xs) (filter test xs)) ≡ true
    by true passes later = and_from (test x) (list_all test (filter test xs)) passes later
    by false fails later = later
