-- Texts in byte order, each once: they ascend, they are the texts that were there, and they depend on these alone.
use Rattle.std.proofs.Common.{◌≡◌, ℕ, List, [], ◌∷◌, Bool, true, false, ◌||◌, refl, sym, ap, subst, ◌∙◌}
use Rattle.std.specs.Prelude.{fold}
use Rattle.std.specs.declared.cmp.Ordering.{Ordering}
use Rattle.std.specs.declared.cmp.Ordering.TheVariants.{Less, Equal, Greater}
use Rattle.std.specs.List.{AllByRecursion, IsDistinct}
use Rattle.std.specs.List.Sorted.{IsStrictlySortedBy}
use Rattle.std.specs.Str.{bytes_eq}
use Rattle.std.specs.BTreeSet.{insert_key}
use Rattle.std.specs.Ordering.{is_eq, match_ordering, ordering_reverse}
use Rattle.std.specs.Cmp.Lexicographic.{nat_list_cmp_total}
use Rattle.std.proofs.lemmas.Map.Lookups.{exact_bytes}
use Rattle.std.proofs.lemmas.Map.Text.{is_eq-slice_cmp}
use Rattle.std.proofs.lemmas.Bool.{both_ways}
use Rattle.std.proofs.lemmas.Slice.Eq.{bytes_eq-Decides}
use Rattle.std.proofs.Math.Bool.{or_assoc, or-true, or-false}
use Rattle.gv_base.specs.Laws.{ByteOrderLaw, InOrderLaw}
use Rattle.gv_base.specs.Order.{byte_cmp, has_text, HaveSameTexts, IsAscending, in_order}

abbrev put_all : List (List ℕ) → List (List ℕ) → List (List ℕ)
put_all ks xs = fold (insert_key byte_cmp) ks xs

-- ---- they ascend
below_all : (k x : List ℕ) (ys : List (List ℕ)) → byte_cmp k x ≡ Less → AllByRecursion (λ y. byte_cmp x y ≡ Less) ys → AllByRecursion (λ y. byte_cmp k y ≡ Less) ys
below_all k x [] e a = tt
below_all k x (y ∷ ys) e a = (nat_list_cmp_total.trans k x y e a.0, below_all k x ys e a.1)

all_put : (x k : List ℕ) (ks : List (List ℕ)) → byte_cmp x k ≡ Less → AllByRecursion (λ y. byte_cmp x y ≡ Less) ks → AllByRecursion (λ y. byte_cmp x y ≡ Less) (insert_key byte_cmp ks k)
all_put x k [] e a = (e, tt)
all_put x k (y ∷ ys) e a = by (byte_cmp k y) (all_put x k ys e a.1)
  where
    by : (r : Ordering) → AllByRecursion (λ z. byte_cmp x z ≡ Less) (insert_key byte_cmp ys k) → AllByRecursion (λ z. byte_cmp x z ≡ Less) (match_ordering r (k ∷ y ∷ ys) (y ∷ ys) (y ∷ insert_key byte_cmp ys k))
    by Less h = (e, a)
    by Equal h = a
    by Greater h = (a.0, h)

pub ascends_put : (ks : List (List ℕ)) (k : List ℕ) → IsAscending ks → IsAscending (insert_key byte_cmp ks k)
unfolding IsStrictlySortedBy
ascends_put [] k a = (tt, tt)
ascends_put (x ∷ xs) k a = by (byte_cmp k x) refl (ascends_put xs k a.1)
  where
    by : (r : Ordering) → byte_cmp k x ≡ r → IsAscending (insert_key byte_cmp xs k) → IsAscending (match_ordering r (k ∷ x ∷ xs) (x ∷ xs) (x ∷ insert_key byte_cmp xs k))
    by Less e h = ((e, below_all k x xs e a.0), a)
    by Equal e h = a
    by Greater e h = (all_put x k xs (nat_list_cmp_total.antisymm x k ∙ ap ordering_reverse e) a.0, h)

ascends_all : (ks xs : List (List ℕ)) → IsAscending ks → IsAscending (put_all ks xs)
ascends_all ks [] a = a
ascends_all ks (x ∷ xs) a = ascends_all (insert_key byte_cmp ks x) xs (ascends_put ks x a)

pub in_order-ascends : (xs : List (List ℕ)) → IsAscending (in_order xs)
unfolding IsStrictlySortedBy
in_order-ascends xs = ascends_all [] xs tt

-- ---- they are the texts that were there
once : (a b : Bool) → (a || b) ≡ (a || (a || b))
once true b = refl
once false b = refl

swapped : (a b c : Bool) → (a || (b || c)) ≡ (b || (a || c))
swapped true b c = sym (or-true b)
swapped false b c = refl

pub has_put : (ks : List (List ℕ)) (k text : List ℕ) → has_text (insert_key byte_cmp ks k) text ≡ (bytes_eq text k || has_text ks text)
has_put [] k text = refl
has_put (x ∷ xs) k text = by (byte_cmp k x) refl (has_put xs k text)
  where
    by : (r : Ordering) → byte_cmp k x ≡ r → has_text (insert_key byte_cmp xs k) text ≡ (bytes_eq text k || has_text xs text)
        → has_text (match_ordering r (k ∷ x ∷ xs) (x ∷ xs) (x ∷ insert_key byte_cmp xs k)) text ≡ (bytes_eq text k || (bytes_eq text x || has_text xs text))
    by Less e h = refl
    by Equal e h = rw (exact_bytes k x e) (once (bytes_eq text x) (has_text xs text))
    by Greater e h = rw h (swapped (bytes_eq text x) (bytes_eq text k) (has_text xs text))

has_all : (ks xs : List (List ℕ)) (text : List ℕ) → has_text (put_all ks xs) text ≡ (has_text xs text || has_text ks text)
has_all ks [] text = refl
has_all ks (x ∷ xs) text =
    has_all (insert_key byte_cmp ks x) xs text
    ∙ ap (λ b. has_text xs text || b) (has_put ks x text)
    ∙ swapped (has_text xs text) (bytes_eq text x) (has_text ks text)
    ∙ sym (or_assoc (bytes_eq text x) (has_text xs text) (has_text ks text))

pub in_order-has : (xs : List (List ℕ)) → HaveSameTexts xs (in_order xs)
in_order-has xs text = sym (has_all [] xs text ∙ or-false (has_text xs text))

-- ---- they depend on these alone
equal_bytes : (x : List ℕ) → bytes_eq x x ≡ true
equal_bytes x = (bytes_eq-Decides x x).1 refl

other_bytes : (x y : List ℕ) → byte_cmp x y ≡ Less → bytes_eq x y ≡ false
other_bytes x y e = sym (is_eq-slice_cmp x y) ∙ ap is_eq e

none_above : (x : List ℕ) (ys : List (List ℕ)) → AllByRecursion (λ y. byte_cmp x y ≡ Less) ys → has_text ys x ≡ false
none_above x [] a = refl
none_above x (y ∷ ys) a = rw (other_bytes x y a.0, none_above x ys a.1) refl

-- the least text of one list is in the other, whose texts are all above it
no_least : (x y : List ℕ) (xs ys : List (List ℕ)) → byte_cmp x y ≡ Less → AllByRecursion (λ z. byte_cmp y z ≡ Less) ys → HaveSameTexts (x ∷ xs) (y ∷ ys) → ⊥
no_least x y xs ys e a same =
    let there : has_text (x ∷ xs) x ≡ true = rw (equal_bytes x) refl in
    let not_there : has_text (y ∷ ys) x ≡ false = rw (other_bytes x y e, none_above x ys (below_all x y ys e a)) refl in
    both_ways (has_text (y ∷ ys) x) not_there (sym (same x) ∙ there)

same_tails : (x : List ℕ) (xs ys : List (List ℕ)) → AllByRecursion (λ z. byte_cmp x z ≡ Less) xs → AllByRecursion (λ z. byte_cmp x z ≡ Less) ys → HaveSameTexts (x ∷ xs) (x ∷ ys) → HaveSameTexts xs ys
same_tails x xs ys a b same text = by (bytes_eq text x) refl (same text)
  where
    by : (t : Bool) → bytes_eq text x ≡ t → (t || has_text xs text) ≡ (t || has_text ys text) → has_text xs text ≡ has_text ys text
    by true is h =
        let it : text ≡ x = (bytes_eq-Decides text x).0 is in
        rw it (none_above x xs a ∙ sym (none_above x ys b))
    by false is h = h

-- two lists that ascend and have the same texts are equal
pub ascending_same : (xs ys : List (List ℕ)) → IsAscending xs → IsAscending ys → HaveSameTexts xs ys → xs ≡ ys
unfolding IsStrictlySortedBy
ascending_same [] [] a b same = refl
ascending_same [] (y ∷ ys) a b same = absurd (both_ways false refl (same y ∙ rw (equal_bytes y) refl))
ascending_same (x ∷ xs) [] a b same = absurd (both_ways false refl (sym (same x) ∙ rw (equal_bytes x) refl))
ascending_same (x ∷ xs) (y ∷ ys) a b same = by (byte_cmp x y) refl (λ rest. ascending_same xs ys a.1 b.1 rest)
  where
    by : (r : Ordering) → byte_cmp x y ≡ r → (HaveSameTexts xs ys → xs ≡ ys) → x ∷ xs ≡ y ∷ ys
    by Less e tails = absurd (no_least x y xs ys e b.0 same)
    by Equal e tails =
        let it : x ≡ y = exact_bytes x y e in
        let above : AllByRecursion (λ z. byte_cmp x z ≡ Less) ys = subst (λ (z : List ℕ). AllByRecursion (λ w. byte_cmp z w ≡ Less) ys) (sym it) b.0 in
        let there : HaveSameTexts (x ∷ xs) (x ∷ ys) = subst (λ (z : List ℕ). HaveSameTexts (x ∷ xs) (z ∷ ys)) (sym it) same in
        ap (λ zs. x ∷ zs) (tails (same_tails x xs ys a.0 above there)) ∙ ap (λ z. z ∷ ys) it
    by Greater e tails = absurd (no_least y x ys xs (nat_list_cmp_total.antisymm y x ∙ ap ordering_reverse e) a.0 (λ text. sym (same text)))

pub same_in_order : (xs ys : List (List ℕ)) → HaveSameTexts xs ys → in_order xs ≡ in_order ys
same_in_order xs ys same =
    ascending_same (in_order xs) (in_order ys) (in_order-ascends xs) (in_order-ascends ys) (λ text. sym (in_order-has xs text) ∙ same text ∙ in_order-has ys text)

-- texts that ascend are in order
pub in_order-ascending : (xs : List (List ℕ)) → IsAscending xs → in_order xs ≡ xs
in_order-ascending xs a = ascending_same (in_order xs) xs (in_order-ascends xs) a (λ text. sym (in_order-has xs text))

others_apart : (x : List ℕ) (ys : List (List ℕ)) → AllByRecursion (λ y. byte_cmp x y ≡ Less) ys → AllByRecursion (λ y. bytes_eq x y ≡ false) ys
others_apart x [] a = tt
others_apart x (y ∷ ys) a = (other_bytes x y a.0, others_apart x ys a.1)

-- and none of them stands twice
pub ascending-distinct : (xs : List (List ℕ)) → IsAscending xs → IsDistinct bytes_eq xs
unfolding IsStrictlySortedBy IsDistinct
ascending-distinct [] a = tt
ascending-distinct (x ∷ xs) a = (others_apart x xs a.0, ascending-distinct xs a.1)

pub byte_order_law : ByteOrderLaw
byte_order_law = record { total = nat_list_cmp_total; exact = exact_bytes; equal = is_eq-slice_cmp }

pub in_order_law : InOrderLaw
in_order_law =
    record {
      ascends = in_order-ascends;
      members = in_order-has;
      same = same_in_order;
      unique = ascending_same;
      in_order_already = in_order-ascending;
      distinct = ascending-distinct;
      put_ascends = ascends_put;
      put_members = has_put;
    }
