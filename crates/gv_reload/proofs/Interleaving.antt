-- Two lists in order, put together, are in order.
use Rattle.std.proofs.Common.{◌≡◌, Bool, true, false, cond, List, [], ◌∷◌, ◌++◌, refl, sym, ap, subst, ◌∙◌, true≢false}
use Rattle.std.specs.Prelude.{fold}
use Rattle.std.specs.BTreeSet.{insert_key}
use Rattle.std.specs.Cmp.{IsTotalOrder}
use Rattle.std.specs.List.{AllByRecursion}
use Rattle.std.specs.List.Sorted.{IsStrictlySortedBy}
use Rattle.std.specs.Ordering.{is_lt, match_ordering, ordering_reverse}
use Rattle.std.specs.declared.cmp.Ordering.{Ordering}
use Rattle.std.specs.declared.cmp.Ordering.TheVariants.{Less, Equal, Greater}
use Rattle.gv_reload.specs.Interleaved.{ahead, interleaved, left}
use Rattle.gv_load.specs.MemberLemmas.{below_all}
use Rattle.gv_reload.proofs.Partings.{all_append, all_puts, puts_ascending}

module _ {K : Type 0} {cmp : K → K → Ordering} (total : IsTotalOrder cmp) where
  abbrev puts : List K → List K → List K
  puts ks xs = fold (insert_key cmp) ks xs

  abbrev IsBelow : K → List K → Type 0
  IsBelow x ks = AllByRecursion (λ k. cmp x k ≡ Less) ks

  above : (x y : K) → cmp x y ≡ Less → cmp y x ≡ Greater
  above x y e = total.antisymm y x ∙ ap ordering_reverse e

  -- what comes before all others comes first
  put_first : (x : K) (ks : List K) → IsBelow x ks → insert_key cmp ks x ≡ x ∷ ks
  put_first x [] below = refl
  put_first x (k ∷ ks) below = ap (λ r. match_ordering r (x ∷ k ∷ ks) (k ∷ ks) (k ∷ insert_key cmp ks x)) below.0

  stays_first : (x : K) (ks ys : List K) → IsBelow x ys → puts (x ∷ ks) ys ≡ x ∷ puts ks ys
  stays_first x ks [] below = refl
  stays_first x ks (y ∷ ys) below =
      ap (λ r. puts (match_ordering r (y ∷ x ∷ ks) (x ∷ ks) (x ∷ insert_key cmp ks y)) ys) (above x y below.0)
      ∙ stays_first x (insert_key cmp ks y) ys below.1

  first_of : (x : K) (ks xs ys : List K) → IsBelow x ks → IsBelow x xs → IsBelow x ys → puts ks (xs ++ x ∷ ys) ≡ x ∷ puts ks (xs ++ ys)
  first_of x ks [] ys bk bx by_ = ap (λ zs. puts zs ys) (put_first x ks bk) ∙ stays_first x ks ys by_
  first_of x ks (z ∷ zs) ys bk bx by_ =
      first_of x (insert_key cmp ks z) zs ys (all_puts total (λ k. cmp x k ≡ Less) ks (z ∷ []) bk (bx.0, tt)) bx.1 by_

  first_among : (x : K) (xs ys : List K) → IsBelow x xs → IsBelow x ys → puts [] (xs ++ x ∷ ys) ≡ x ∷ puts [] (xs ++ ys)
  first_among x xs ys bx by_ = first_of x [] xs ys tt bx by_

  -- a test tells the lists apart, and not what the order doesn't
  module _ (test : K → Bool) (alike : (x y : K) → cmp x y ≡ Equal → test x ≡ test y) where
    abbrev Passes : List K → Type 0
    Passes ks = AllByRecursion (λ k. test k ≡ true) ks

    abbrev Fails : List K → Type 0
    Fails ks = AllByRecursion (λ k. test k ≡ false) ks

    step : (x : K) (xs : List K) → test x ≡ false → IsBelow x xs
        → ((ks : List K) → IsStrictlySortedBy cmp ks → Passes ks → interleaved cmp xs ks ≡ puts [] (xs ++ ks))
        → (ks : List K) → IsStrictlySortedBy cmp ks → Passes ks → ahead cmp x ks ++ x ∷ interleaved cmp xs (left cmp x ks) ≡ puts [] (x ∷ xs ++ ks)
    unfolding IsStrictlySortedBy
    step x xs fails below later [] sorted pass =
        ap (λ zs. x ∷ zs) (later [] sorted pass) ∙ sym (first_among x [] (xs ++ []) tt (all_append (λ k. cmp x k ≡ Less) xs [] below tt))
    step x xs fails below later (k ∷ ks) sorted pass = by (cmp k x) refl (step x xs fails below later ks sorted.1 pass.1)
      where
        by : (r : Ordering) → cmp k x ≡ r → ahead cmp x ks ++ x ∷ interleaved cmp xs (left cmp x ks) ≡ puts [] (x ∷ xs ++ ks)
            → cond (is_lt r) (k ∷ ahead cmp x ks) [] ++ x ∷ interleaved cmp xs (cond (is_lt r) (left cmp x ks) (k ∷ ks)) ≡ puts [] (x ∷ xs ++ k ∷ ks)
        by Less is rest = ap (λ zs. k ∷ zs) rest ∙ sym (first_among k (x ∷ xs) ks (is, below_all total k x xs is below) sorted.0)
        by Equal is rest = absurd (true≢false (sym pass.0 ∙ alike k x is ∙ fails))
        by Greater is rest =
            let less : cmp x k ≡ Less = total.antisymm x k ∙ ap ordering_reverse is in
            ap (λ zs. x ∷ zs) (later (k ∷ ks) sorted pass)
            ∙ sym (first_among x [] (xs ++ k ∷ ks) tt (all_append (λ z. cmp x z ≡ Less) xs (k ∷ ks) below (less, below_all total x k ks less sorted.0)))

    pub interleaved_in_order : (xs ks : List K) → IsStrictlySortedBy cmp xs → Fails xs → IsStrictlySortedBy cmp ks → Passes ks → interleaved cmp xs ks ≡ puts [] (xs ++ ks)
    unfolding IsStrictlySortedBy
    interleaved_in_order [] ks sx fx sk pk = sym (puts_ascending total ks sk)
    interleaved_in_order (x ∷ xs) ks sx fx sk pk = step x xs fx.0 sx.0 (λ zs sz pz. interleaved_in_order xs zs sx.1 fx.1 sz pz) ks sk pk
