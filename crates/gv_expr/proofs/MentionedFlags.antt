-- Borrowed texts that were sorted and lost their repeats are in order.
use Rattle.std.proofs.Common.{◌≡◌, ℕ, Bool, true, false, ◌||◌, cond, List, [], ◌∷◌, refl, sym, subst, ap, ◌∙◌, IsPermutation, IsSorted}
use Rattle.std.specs.Borrow.{Bor}
use Rattle.std.specs.Cmp.Lexicographic.{nat_list_cmp_total, same_text}
use Rattle.std.specs.List.{AllByRecursion, dedup, dedup_from}
use Rattle.std.specs.List.Sorted.{IsStrictlySortedBy}
use Rattle.std.specs.Str.{bytes_eq}
use Rattle.std.specs.declared.cmp.Ordering.{Ordering}
use Rattle.std.specs.declared.cmp.Ordering.TheVariants.{Less}
use Rattle.std.proofs.lemmas.Cmp.{on_total}
use Rattle.std.proofs.lemmas.List.Kept.{IsStrictlySortedBy-dedup}
use Rattle.std.proofs.lemmas.List.Sorted.{IsPermutation-map, list_any-IsPermutation}
use Rattle.std.proofs.lemmas.Map.Text.{is_eq-slice_cmp}
use Rattle.gv_base.specs.Order.{HaveSameTexts, IsAscending, byte_cmp, has_text, in_order}
use Rattle.gv_base.specs.Laws.{InOrderLaw}
use Rattle.gv_expr.specs.Mentions.{texts_of}

abbrev pub text_eq : Bor (List ℕ) → Bor (List ℕ) → Bool
text_eq a b = bytes_eq a.now b.now

abbrev pub text_cmp : Bor (List ℕ) → Bor (List ℕ) → Ordering
text_cmp a b = byte_cmp a.now b.now

below_mapped : (x : Bor (List ℕ)) (ys : List (Bor (List ℕ))) → AllByRecursion (λ y. text_cmp x y ≡ Less) ys → AllByRecursion (λ y. byte_cmp x.now y ≡ Less) (texts_of ys)
below_mapped x [] h = tt
below_mapped x (y ∷ ys) h = (h.0, below_mapped x ys h.1)

ascend_mapped : (xs : List (Bor (List ℕ))) → IsStrictlySortedBy text_cmp xs → IsAscending (texts_of xs)
unfolding IsStrictlySortedBy
ascend_mapped [] h = tt
ascend_mapped (x ∷ xs) h = (below_mapped x xs h.0, ascend_mapped xs h.1)

-- a repeat leaves its text there
module _ (text : List ℕ) where
  has_from : (k : Bor (List ℕ)) (xs : List (Bor (List ℕ))) → has_text (texts_of (dedup_from text_eq k xs)) text ≡ (bytes_eq text k.now || has_text (texts_of xs) text)
  has_from k [] = refl
  has_from k (x ∷ xs) = by (text_eq x k) refl (has_from k xs) (has_from x xs)
    where
      by : (b : Bool) → text_eq x k ≡ b → has_text (texts_of (dedup_from text_eq k xs)) text ≡ (bytes_eq text k.now || has_text (texts_of xs) text)
          → has_text (texts_of (dedup_from text_eq x xs)) text ≡ (bytes_eq text x.now || has_text (texts_of xs) text)
          → has_text (texts_of (cond b (dedup_from text_eq k xs) (k ∷ dedup_from text_eq x xs))) text ≡ (bytes_eq text k.now || (bytes_eq text x.now || has_text (texts_of xs) text))
      by true e here later = here ∙ twice (bytes_eq text k.now) ∙ ap (λ t. bytes_eq text k.now || (bytes_eq text t || has_text (texts_of xs) text)) (sym (same_text x.now k.now (sym e)))
        where
          twice : (b : Bool) → (b || has_text (texts_of xs) text) ≡ (b || (b || has_text (texts_of xs) text))
          twice true = refl
          twice false = refl
      by false e here later = ap (λ b. bytes_eq text k.now || b) later

  has_once : (xs : List (Bor (List ℕ))) → has_text (texts_of (dedup text_eq xs)) text ≡ has_text (texts_of xs) text
  has_once [] = refl
  has_once (x ∷ xs) = has_from x xs

pub sorted_in_order : InOrderLaw → (xs ys zs : List (Bor (List ℕ))) → IsPermutation xs ys → IsSorted text_cmp ys → zs ≡ dedup text_eq ys → texts_of zs ≡ in_order (texts_of xs)
sorted_in_order law xs ys zs same sorted once =
    let ascending : IsAscending (texts_of zs) = subst (λ ts. IsAscending (texts_of ts)) (sym once)
    (ascend_mapped (dedup text_eq ys) (IsStrictlySortedBy-dedup (on_total (λ (t : Bor (List ℕ)). t.now) nat_list_cmp_total) (λ x y. sym (is_eq-slice_cmp x.now y.now)) ys sorted)) in
    let texts : HaveSameTexts (texts_of zs) (texts_of xs) = λ text.
    ap (λ ts. has_text (texts_of ts) text) once
    ∙ has_once text ys
    ∙ sym (list_any-IsPermutation (bytes_eq text) (texts_of xs) (texts_of ys) (IsPermutation-map (λ (t : Bor (List ℕ)). t.now) xs ys same)) in
    sym (law.in_order_already (texts_of zs) ascending) ∙ law.same (texts_of zs) (texts_of xs) texts
