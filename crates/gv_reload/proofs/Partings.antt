-- Lists in order, and their two parts that a test tells apart.
use Rattle.std.proofs.Common.{◌≡◌, Bool, true, false, cond, List, [], ◌∷◌, ◌++◌, refl, sym, ap, subst, ◌∙◌, append_assoc, append-nil, true≢false}
use Rattle.std.specs.Prelude.{not, filter, fold}
use Rattle.std.specs.BTreeSet.{insert_key}
use Rattle.std.specs.Cmp.{IsTotalOrder}
use Rattle.std.specs.List.{AllByRecursion}
use Rattle.std.specs.List.Sorted.{IsStrictlySortedBy}
use Rattle.std.specs.Ordering.{match_ordering, ordering_reverse}
use Rattle.std.specs.declared.cmp.Ordering.{Ordering}
use Rattle.std.specs.declared.cmp.Ordering.TheVariants.{Less, Equal, Greater}
use Rattle.std.proofs.lemmas.List.Elements.{filter-append}
use Rattle.gv_load.specs.MemberLemmas.{all_ascend, ascends_put, below_all}

-- ---- filters of filters, and what holds of all
module _ {A : Type 0} where
  pub filter_within : (p q : A → Bool) (xs : List A) → ((x : A) → p x ≡ true → q x ≡ true) → filter p (filter q xs) ≡ filter p xs
  filter_within p q [] inside = refl
  filter_within p q (x ∷ xs) inside = by (q x) (p x) refl (inside x) (filter_within p q xs inside)
    where
      by : (b c : Bool) → p x ≡ c → (c ≡ true → b ≡ true) → filter p (filter q xs) ≡ filter p xs → filter p (cond b (x ∷ filter q xs) (filter q xs)) ≡ cond c (x ∷ filter p xs) (filter p xs)
      by true true is then rest = rw is (ap (λ ys. x ∷ ys) rest)
      by true false is then rest = rw is rest
      by false true is then rest = absurd (true≢false (sym (then refl)))
      by false false is then rest = rest

  pub filter_outside : (p q : A → Bool) (xs : List A) → ((x : A) → p x ≡ true → q x ≡ false) → filter p (filter q xs) ≡ []
  filter_outside p q [] outside = refl
  filter_outside p q (x ∷ xs) outside = by (q x) (p x) refl (outside x) (filter_outside p q xs outside)
    where
      by : (b c : Bool) → p x ≡ c → (c ≡ true → b ≡ false) → filter p (filter q xs) ≡ [] → filter p (cond b (x ∷ filter q xs) (filter q xs)) ≡ []
      by true true is then rest = absurd (true≢false (then refl))
      by true false is then rest = rw is rest
      by false c is then rest = rest

  pub passes_all : (q : A → Bool) (xs : List A) → AllByRecursion (λ x. q x ≡ true) (filter q xs)
  passes_all q [] = tt
  passes_all q (x ∷ xs) = by (q x) refl (passes_all q xs)
    where
      by : (b : Bool) → q x ≡ b → AllByRecursion (λ y. q y ≡ true) (filter q xs) → AllByRecursion (λ y. q y ≡ true) (cond b (x ∷ filter q xs) (filter q xs))
      by true is rest = (is, rest)
      by false is rest = rest

  pub all_filter : (P : A → Type 0) (q : A → Bool) (xs : List A) → AllByRecursion P xs → AllByRecursion P (filter q xs)
  all_filter P q [] all = tt
  all_filter P q (x ∷ xs) all = by (q x) (all_filter P q xs all.1)
    where
      by : (b : Bool) → AllByRecursion P (filter q xs) → AllByRecursion P (cond b (x ∷ filter q xs) (filter q xs))
      by true rest = (all.0, rest)
      by false rest = rest

  pub all_mapped : (P Q : A → Type 0) (xs : List A) → ((x : A) → P x → Q x) → AllByRecursion P xs → AllByRecursion Q xs
  all_mapped P Q [] then all = tt
  all_mapped P Q (x ∷ xs) then all = (then x all.0, all_mapped P Q xs then all.1)

  pub all_append : (P : A → Type 0) (xs ys : List A) → AllByRecursion P xs → AllByRecursion P ys → AllByRecursion P (xs ++ ys)
  all_append P [] ys all others = others
  all_append P (x ∷ xs) ys all others = (all.0, all_append P xs ys all.1 others)

-- ---- what is put in order
module _ {K : Type 0} {cmp : K → K → Ordering} (total : IsTotalOrder cmp) where
  abbrev puts : List K → List K → List K
  puts ks xs = fold (insert_key cmp) ks xs

  all_put : (P : K → Type 0) (ks : List K) (k : K) → AllByRecursion P ks → P k → AllByRecursion P (insert_key cmp ks k)
  all_put P [] k all it = (it, tt)
  all_put P (x ∷ xs) k all it = by (cmp k x) (all_put P xs k all.1 it)
    where
      by : (r : Ordering) → AllByRecursion P (insert_key cmp xs k) → AllByRecursion P (match_ordering r (k ∷ x ∷ xs) (x ∷ xs) (x ∷ insert_key cmp xs k))
      by Less rest = (it, all)
      by Equal rest = all
      by Greater rest = (all.0, rest)

  pub all_puts : (P : K → Type 0) (ks xs : List K) → AllByRecursion P ks → AllByRecursion P xs → AllByRecursion P (puts ks xs)
  all_puts P ks [] all these = all
  all_puts P ks (x ∷ xs) all these = all_puts P (insert_key cmp ks x) xs (all_put P ks x all these.0) these.1

  ascends_puts : (ks xs : List K) → IsStrictlySortedBy cmp ks → IsStrictlySortedBy cmp (puts ks xs)
  ascends_puts ks [] a = a
  ascends_puts ks (x ∷ xs) a = ascends_puts (insert_key cmp ks x) xs (ascends_put total ks x a)

  pub ascends_filter : (q : K → Bool) (xs : List K) → IsStrictlySortedBy cmp xs → IsStrictlySortedBy cmp (filter q xs)
  unfolding IsStrictlySortedBy
  ascends_filter q [] a = tt
  ascends_filter q (x ∷ xs) a = by (q x) (ascends_filter q xs a.1)
    where
      by : (b : Bool) → IsStrictlySortedBy cmp (filter q xs) → IsStrictlySortedBy cmp (cond b (x ∷ filter q xs) (filter q xs))
      by true rest = (all_filter (λ y. cmp x y ≡ Less) q xs a.0, rest)
      by false rest = rest

  -- in what ascends each goes to the end
  put_last : (ks : List K) (x : K) (xs : List K) → IsStrictlySortedBy cmp (ks ++ x ∷ xs) → insert_key cmp ks x ≡ ks ++ x ∷ []
  unfolding IsStrictlySortedBy
  put_last [] x xs a = refl
  put_last (k ∷ ks) x xs a =
      let above : cmp x k ≡ Greater = total.antisymm x k ∙ ap ordering_reverse (below ks a.0) in
      rw above (ap (λ ys. k ∷ ys) (put_last ks x xs a.1))
    where
      below : (ks : List K) → AllByRecursion (λ y. cmp k y ≡ Less) (ks ++ x ∷ xs) → cmp k x ≡ Less
      below [] all = all.0
      below (y ∷ ys) all = below ys all.1

  puts_last : (ks xs : List K) → IsStrictlySortedBy cmp (ks ++ xs) → puts ks xs ≡ ks ++ xs
  puts_last ks [] a = sym (append-nil ks)
  puts_last ks (x ∷ xs) a =
      let them : (ks ++ x ∷ []) ++ xs ≡ ks ++ x ∷ xs = append_assoc ks (x ∷ []) xs in
      ap (λ ys. puts ys xs) (put_last ks x xs a) ∙ puts_last (ks ++ x ∷ []) xs (subst (IsStrictlySortedBy cmp) (sym them) a) ∙ them

  pub puts_ascending : (xs : List K) → IsStrictlySortedBy cmp xs → puts [] xs ≡ xs
  puts_ascending xs a = puts_last [] xs a

  put_first : (k : K) (ks : List K) → AllByRecursion (λ y. cmp k y ≡ Less) ks → insert_key cmp ks k ≡ k ∷ ks
  put_first k [] all = refl
  put_first k (x ∷ xs) all = rw all.0 refl

  -- two lists that ascend are equal where both parts are
  same_heads : (x y : K) (xs ys xs_ ys_ : List K) → AllByRecursion (λ z. cmp x z ≡ Less) xs → AllByRecursion (λ z. cmp y z ≡ Less) ys → x ∷ xs_ ≡ ys → xs ≡ y ∷ ys_ → ⊥
  same_heads x y xs ys xs_ ys_ a b e f =
      let above : cmp y x ≡ Less = (subst (AllByRecursion (λ z. cmp y z ≡ Less)) (sym e) b).0 in
      let below : cmp x y ≡ Less = (subst (AllByRecursion (λ z. cmp x z ≡ Less)) f a).0 in
      never (sym below ∙ total.antisymm x y ∙ ap ordering_reverse above)
    where
      never : Less ≡ Greater → ⊥
      never e = cc

  module _ (q : K → Bool) where
    abbrev other : K → Bool
    other x = not (q x)

    pub by_parts : (xs ys : List K) → IsStrictlySortedBy cmp xs → IsStrictlySortedBy cmp ys → filter q xs ≡ filter q ys → filter other xs ≡ filter other ys → xs ≡ ys
    unfolding IsStrictlySortedBy
    by_parts [] [] a b e f = refl
    by_parts [] (y ∷ ys) a b e f = by (q y) e f
      where
        by : (c : Bool) → [] ≡ cond c (y ∷ filter q ys) (filter q ys) → [] ≡ cond (not c) (y ∷ filter other ys) (filter other ys) → [] ≡ y ∷ ys
        by true e f = cc
        by false e f = cc
    by_parts (x ∷ xs) [] a b e f = by (q x) e f
      where
        by : (c : Bool) → cond c (x ∷ filter q xs) (filter q xs) ≡ [] → cond (not c) (x ∷ filter other xs) (filter other xs) ≡ [] → x ∷ xs ≡ []
        by true e f = cc
        by false e f = cc
    by_parts (x ∷ xs) (y ∷ ys) a b e f = by (q x) (q y) (by_parts xs ys a.1 b.1) e f
      where
        both : (rest : List K) (more : List K) → (xs ≡ ys) → x ∷ rest ≡ y ∷ more → x ∷ xs ≡ y ∷ ys
        both rest more e f = cc

        tails : (rest more : List K) → x ∷ rest ≡ y ∷ more → rest ≡ more
        tails rest more e = cc

        by : (c d : Bool) → (filter q xs ≡ filter q ys → filter other xs ≡ filter other ys → xs ≡ ys) →
            cond c (x ∷ filter q xs) (filter q xs) ≡ cond d (y ∷ filter q ys) (filter q ys) →
            cond (not c) (x ∷ filter other xs) (filter other xs) ≡ cond (not d) (y ∷ filter other ys) (filter other ys) → x ∷ xs ≡ y ∷ ys
        by true true same e f = both (filter q xs) (filter q ys) (same (tails (filter q xs) (filter q ys) e) f) e
        by true false same e f =
            absurd (same_heads x y (filter other xs) (filter q ys) (filter q xs) (filter other ys) (all_filter (λ z. cmp x z ≡ Less) other xs a.0) (all_filter (λ z. cmp y z ≡ Less) q ys b.0) e f)
        by false true same e f =
            absurd (same_heads x y (filter q xs) (filter other ys) (filter other xs) (filter q ys) (all_filter (λ z. cmp x z ≡ Less) q xs a.0) (all_filter (λ z. cmp y z ≡ Less) other ys b.0) f e)
        by false false same e f = both (filter other xs) (filter other ys) (same e (tails (filter other xs) (filter other ys) f)) f

  -- a test that doesn't tell apart what ties
  module _ (q : K → Bool) (alike : (x y : K) → cmp x y ≡ Equal → q x ≡ q y) where
    filter_put : (ks : List K) (k : K) → IsStrictlySortedBy cmp ks → filter q (insert_key cmp ks k) ≡ cond (q k) (insert_key cmp (filter q ks) k) (filter q ks)
    unfolding IsStrictlySortedBy
    filter_put [] k a = refl
    filter_put (x ∷ xs) k a = by (cmp k x) refl (filter_put xs k a.1)
      where
        equal : (b c : Bool) (rest : List K) → b ≡ c → cmp k x ≡ Equal → cond c (x ∷ rest) rest ≡ cond b (insert_key cmp (cond c (x ∷ rest) rest) k) (cond c (x ∷ rest) rest)
        equal true true rest is e = rw e refl
        equal true false rest is e = absurd (true≢false is)
        equal false c rest is e = refl

        greater : (b c : Bool) (put rest : List K) → cmp k x ≡ Greater → put ≡ cond c (insert_key cmp rest k) rest →
            cond b (x ∷ put) put ≡ cond c (insert_key cmp (cond b (x ∷ rest) rest) k) (cond b (x ∷ rest) rest)
        greater true true put rest e is = rw e (ap (λ ys. x ∷ ys) is)
        greater true false put rest e is = ap (λ ys. x ∷ ys) is
        greater false c put rest e is = is

        by : (r : Ordering) → cmp k x ≡ r → filter q (insert_key cmp xs k) ≡ cond (q k) (insert_key cmp (filter q xs) k) (filter q xs) →
            filter q (match_ordering r (k ∷ x ∷ xs) (x ∷ xs) (x ∷ insert_key cmp xs k)) ≡ cond (q k) (insert_key cmp (filter q (x ∷ xs)) k) (filter q (x ∷ xs))
        by Less e rest = ap (λ ys. cond (q k) ys (filter q (x ∷ xs))) (sym (put_first k (filter q (x ∷ xs)) (all_filter (λ y. cmp k y ≡ Less) q (x ∷ xs) (e, below_all total k x xs e a.0))))
        by Equal e rest = equal (q k) (q x) (filter q xs) (alike k x e) e
        by Greater e rest = greater (q x) (q k) (filter q (insert_key cmp xs k)) (filter q xs) e rest

    filter_puts : (ks xs : List K) → IsStrictlySortedBy cmp ks → filter q (puts ks xs) ≡ puts (filter q ks) (filter q xs)
    filter_puts ks [] a = refl
    filter_puts ks (x ∷ xs) a =
        filter_puts (insert_key cmp ks x) xs (ascends_put total ks x a) ∙ ap (λ ys. puts ys (filter q xs)) (filter_put ks x a) ∙ by (q x)
      where
        by : (b : Bool) → puts (cond b (insert_key cmp (filter q ks) x) (filter q ks)) (filter q xs) ≡ puts (filter q ks) (cond b (x ∷ filter q xs) (filter q xs))
        by true = refl
        by false = refl

    pub filter_ordered : (xs : List K) → filter q (puts [] xs) ≡ puts [] (filter q xs)
    unfolding IsStrictlySortedBy
    filter_ordered xs = filter_puts [] xs tt

  -- ---- one part of one list and the other part of another one, put in order
  module _ (q : K → Bool) (alike : (x y : K) → cmp x y ≡ Equal → q x ≡ q y) where
    alike_not : (x y : K) → cmp x y ≡ Equal → not (q x) ≡ not (q y)
    alike_not x y e = ap not (alike x y e)

    turned : (x : K) → not (q x) ≡ true → q x ≡ false
    turned x = by (q x)
      where
        by : (b : Bool) → not b ≡ true → b ≡ false
        by true e = sym e
        by false e = refl

    turned_back : (x : K) → q x ≡ true → not (q x) ≡ false
    turned_back x e = ap not e

    pub others_stay : (xs ys : List K) → IsStrictlySortedBy cmp xs → filter (λ x. not (q x)) (puts [] (filter (λ x. not (q x)) xs ++ filter q ys)) ≡ filter (λ x. not (q x)) xs
    others_stay xs ys a =
        let none : filter (λ x. not (q x)) (filter q ys) ≡ [] = filter_outside (λ x. not (q x)) q ys turned in
        let left : filter (λ x. not (q x)) (filter (λ x. not (q x)) xs ++ filter q ys) ≡ filter (λ x. not (q x)) xs =
        filter-append (λ x. not (q x)) (filter (λ x. not (q x)) xs) (filter q ys)
        ∙ ap (λ zs. filter (λ x. not (q x)) (filter (λ x. not (q x)) xs) ++ zs) none
        ∙ append-nil (filter (λ x. not (q x)) (filter (λ x. not (q x)) xs))
        ∙ filter_within (λ x. not (q x)) (λ x. not (q x)) xs (λ x is. is) in
        filter_ordered (λ x. not (q x)) alike_not (filter (λ x. not (q x)) xs ++ filter q ys)
        ∙ ap (puts []) left
        ∙ puts_ascending (filter (λ x. not (q x)) xs) (ascends_filter (λ x. not (q x)) xs a)

    pub part_stays : (xs ys : List K) → IsStrictlySortedBy cmp ys → filter q (puts [] (filter (λ x. not (q x)) xs ++ filter q ys)) ≡ filter q ys
    part_stays xs ys a =
        let none : filter q (filter (λ x. not (q x)) xs) ≡ [] = filter_outside q (λ x. not (q x)) xs turned_back in
        let left : filter q (filter (λ x. not (q x)) xs ++ filter q ys) ≡ filter q ys =
        filter-append q (filter (λ x. not (q x)) xs) (filter q ys) ∙ ap (λ zs. zs ++ filter q (filter q ys)) none ∙ filter_within q q ys (λ x is. is) in
        filter_ordered q alike (filter (λ x. not (q x)) xs ++ filter q ys)
        ∙ ap (puts []) left
        ∙ puts_ascending (filter q ys) (ascends_filter q ys a)

    pub put_together : (xs ys : List K) → IsStrictlySortedBy cmp xs → IsStrictlySortedBy cmp ys → filter (λ x. not (q x)) ys ≡ filter (λ x. not (q x)) xs →
        puts [] (filter (λ x. not (q x)) xs ++ filter q ys) ≡ ys
    put_together xs ys a b same =
        by_parts q (puts [] (filter (λ x. not (q x)) xs ++ filter q ys)) ys (all_ascend total (filter (λ x. not (q x)) xs ++ filter q ys)) b
        (part_stays xs ys b) (others_stay xs ys a ∙ sym same)
