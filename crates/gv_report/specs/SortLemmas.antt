-- A proof and no rule. What a stable sort keeps, and that no other list keeps it.
use Rattle.std.proofs.Common.{◌≡◌, ℕ, suc, ◌+◌, Bool, true, false, cond, List, [], ◌∷◌, refl, sym, ap, ◌∙◌, subst, arith, true≢false}
use Rattle.std.specs.Prelude.{not, ◌&&◌, if◌then◌else◌, slice_index_or}
use Rattle.std.specs.Cmp.{IsStrictWeakOrder}
use Rattle.std.specs.List.{filter, list_all}
use Rattle.std.specs.List.Sorted.{ties, IsSortedBy}
use Rattle.std.proofs.lemmas.Bool.{and_parts}
use Rattle.gv_report.specs.Sorting.{put_in, in_order, AreAscending, TiesStay}

pub both : (a b : Bool) → a ≡ true → b ≡ true → (a && b) ≡ true
both true b ea eb = eb
both false b ea eb = ea

pub turned : (b : Bool) → not b ≡ true → b ≡ false
turned true h = sym h
turned false h = refl

head_or : {X : Type 0} → X → List X → X
head_or d [] = d
head_or d (x ∷ xs) = x

head_same : {X : Type 0} (x y : X) (xs ys : List X) → x ∷ xs ≡ y ∷ ys → x ≡ y
unfolding head_or
head_same x y xs ys h = ap (head_or x) h

tail_of : {X : Type 0} → List X → List X
tail_of [] = []
tail_of (x ∷ xs) = xs

tail_same : {X : Type 0} (b : Bool) (x : X) (xs ys : List X) → cond b (x ∷ xs) xs ≡ cond b (x ∷ ys) ys → xs ≡ ys
unfolding tail_of
tail_same true x xs ys h = ap tail_of h
tail_same false x xs ys h = h

module _ {X : Type 0} {before : X → X → Bool} (o : IsStrictWeakOrder before) where
  all_put : (p : X → Bool) (x : X) (ys : List X) → p x ≡ true → list_all p ys ≡ true → list_all p (put_in before x ys) ≡ true
  all_put p x [] px all = both (p x) true px refl
  all_put p x (y ∷ ys) px all =
      let parts = and_parts (p y) (list_all p ys) all in
      by (before y x) (both (p y) (list_all p (put_in before x ys)) parts.0 (all_put p x ys px parts.1))
    where
      by : (b : Bool) → (p y && list_all p (put_in before x ys)) ≡ true → list_all p (if b then y ∷ put_in before x ys else x ∷ y ∷ ys) ≡ true
      by true h = h
      by false h = both (p x) (p y && list_all p ys) px all

  weaker : (x y : X) (zs : List X) → before y x ≡ false → list_all (λ z. not (before z y)) zs ≡ true → list_all (λ z. not (before z x)) zs ≡ true
  weaker x y [] e all = refl
  weaker x y (z ∷ zs) e all =
      let parts = and_parts (not (before z y)) (list_all (λ w. not (before w y)) zs) all in
      both (not (before z x)) (list_all (λ w. not (before w x)) zs) (ap not (o.chain z y x (turned (before z y) parts.0) e)) (weaker x y zs e parts.1)

  put_ascends : (x : X) (ys : List X) → AreAscending before ys → AreAscending before (put_in before x ys)
  put_ascends x [] a = (refl, tt)
  put_ascends x (y ∷ ys) a = by (before y x) refl (put_ascends x ys a.1)
    where
      by : (b : Bool) → before y x ≡ b → AreAscending before (put_in before x ys) → AreAscending before (if b then y ∷ put_in before x ys else x ∷ y ∷ ys)
      by true e h = (all_put (λ z. not (before z y)) x ys (ap not (o.one_way y x e)) a.0, h)
      by false e h = (both (not (before y x)) (list_all (λ z. not (before z x)) ys) (ap not e) (weaker x y ys e a.0), a)

  pub ascends : (xs : List X) → AreAscending before (in_order before xs)
  ascends [] = tt
  ascends (x ∷ xs) = put_ascends x (in_order before xs) (ascends xs)

  apart : (x y z : X) → before y x ≡ true → ties before z y ≡ true → ties before z x ≡ false
  apart x y z e tied = by (before z x) refl
    where
      by : (b : Bool) → before z x ≡ b → (not b && not (before x z)) ≡ false
      by true h = refl
      by false h = absurd (true≢false (sym e ∙ o.chain y z x (turned (before y z) (and_parts (not (before z y)) (not (before y z)) tied).1) h))

  crossed : (x y : X) (ty tx : Bool) (fs ps : List X) → (ty ≡ true → tx ≡ false) → ps ≡ cond tx (x ∷ fs) fs
      → cond ty (y ∷ ps) ps ≡ cond tx (x ∷ cond ty (y ∷ fs) fs) (cond ty (y ∷ fs) fs)
  crossed x y true true fs ps k h = absurd (true≢false (k refl))
  crossed x y true false fs ps k h = ap (λ l. y ∷ l) h
  crossed x y false tx fs ps k h = h

  put_ties : (z x : X) (ys : List X) → filter (ties before z) (put_in before x ys) ≡ filter (ties before z) (x ∷ ys)
  put_ties z x [] = refl
  put_ties z x (y ∷ ys) = by (before y x) refl (put_ties z x ys)
    where
      by : (b : Bool) → before y x ≡ b → filter (ties before z) (put_in before x ys) ≡ filter (ties before z) (x ∷ ys)
          → filter (ties before z) (if b then y ∷ put_in before x ys else x ∷ y ∷ ys) ≡ filter (ties before z) (x ∷ y ∷ ys)
      by true e h = crossed x y (ties before z y) (ties before z x) (filter (ties before z) ys) (filter (ties before z) (put_in before x ys)) (apart x y z e) h
      by false e h = refl

  pub ties_stay : (xs : List X) → TiesStay before xs (in_order before xs)
  ties_stay [] z = refl
  ties_stay (x ∷ xs) z = put_ties z x (in_order before xs) ∙ ap (λ l. cond (ties before z x) (x ∷ l) l) (ties_stay xs z)

  -- one list alone
  itself : (x : X) → ties before x x ≡ true
  itself x = by (before x x) refl
    where
      by : (b : Bool) → before x x ≡ b → (not b && not b) ≡ true
      by true e = absurd (true≢false (sym e ∙ o.one_way x x e))
      by false e = refl

  -- none of what isn't before y ties with what is
  none : (x y : X) (zs : List X) → before x y ≡ true → list_all (λ z. not (before z y)) zs ≡ true → filter (ties before x) zs ≡ []
  none x y [] e all = refl
  none x y (z ∷ zs) e all =
      let parts = and_parts (not (before z y)) (list_all (λ w. not (before w y)) zs) all in
      by (before x z) refl (turned (before z y) parts.0) (none x y zs e parts.1)
    where
      by : (b : Bool) → before x z ≡ b → before z y ≡ false → filter (ties before x) zs ≡ [] → cond (not b && not (before z x)) (z ∷ filter (ties before x) zs) (filter (ties before x) zs) ≡ []
      by true h far rest = rest
      by false h far rest = absurd (true≢false (sym e ∙ o.chain x z y h far))

  holds_first : (x : X) (xs : List X) → filter (ties before x) (x ∷ xs) ≡ x ∷ filter (ties before x) xs
  holds_first x xs = ap (λ b. cond b (x ∷ filter (ties before x) xs) (filter (ties before x) xs)) (itself x)

  empty_not : {P : Type 0} (x : X) (xs : List X) → [] ≡ x ∷ xs → P
  empty_not x xs h = absurd cc

  none_here : (x y : X) (ys : List X) → before x y ≡ true → list_all (λ z. not (before z y)) ys ≡ true → filter (ties before x) (y ∷ ys) ≡ []
  none_here x y ys e all = none x y (y ∷ ys) e (both (not (before y y)) (list_all (λ z. not (before z y)) ys) (and_parts (not (before y y)) (not (before y y)) (itself y)).0 all)

  first_same : (x y : X) (xs ys : List X) → before x y ≡ false → before y x ≡ false → filter (ties before x) (y ∷ ys) ≡ filter (ties before x) (x ∷ xs) → x ≡ y
  first_same x y xs ys ep eq h =
      let tied : ties before x y ≡ true = both (not (before x y)) (not (before y x)) (ap not ep) (ap not eq) in
      sym (head_same y x (filter (ties before x) ys) (filter (ties before x) xs)
      (sym (ap (λ b. cond b (y ∷ filter (ties before x) ys) (filter (ties before x) ys)) tied) ∙ h ∙ holds_first x xs))

  rest_same : (z x y : X) (xs ys : List X) → x ≡ y → filter (ties before z) (y ∷ ys) ≡ filter (ties before z) (x ∷ xs) → filter (ties before z) ys ≡ filter (ties before z) xs
  rest_same z x y xs ys e h = tail_same (ties before z x) x (filter (ties before z) ys) (filter (ties before z) xs) (ap (λ w. filter (ties before z) (w ∷ ys)) e ∙ h)

  joined : (x y : X) (xs ys : List X) → x ≡ y → ys ≡ xs → y ∷ ys ≡ x ∷ xs
  joined x y xs ys e h = cc

  pub one : (xs ys : List X) → AreAscending before xs → AreAscending before ys → TiesStay before xs ys → ys ≡ xs
  one [] [] a b t = refl
  one [] (y ∷ ys) a b t = empty_not y (filter (ties before y) ys) (sym (t y) ∙ holds_first y ys)
  one (x ∷ xs) [] a b t = empty_not x (filter (ties before x) xs) (t x ∙ holds_first x xs)
  one (x ∷ xs) (y ∷ ys) a b t = by (before x y) (before y x) refl refl (one xs ys a.1 b.1)
    where
      by : (p q : Bool) → before x y ≡ p → before y x ≡ q → (TiesStay before xs ys → ys ≡ xs) → y ∷ ys ≡ x ∷ xs
      by true q ep eq rest = empty_not x (filter (ties before x) xs) (sym (none_here x y ys ep b.0) ∙ t x ∙ holds_first x xs)
      by false true ep eq rest = empty_not y (filter (ties before y) ys) (sym (none_here y x xs eq a.0) ∙ sym (t y) ∙ holds_first y ys)
      by false false ep eq rest = joined x y xs ys (first_same x y xs ys ep eq (t x)) (rest (λ z. rest_same z x y xs ys (first_same x y xs ys ep eq (t x)) (t z)))

  tail_sorted : (x : X) (xs : List X) → IsSortedBy before (x ∷ xs) → IsSortedBy before xs
  tail_sorted x xs s k d low high =
      subst (λ n. before (slice_index_or (x ∷ xs) n d) (slice_index_or (x ∷ xs) (suc k) d) ≡ false) (next k) (s (suc k) d (omega arith) (omega (arith, high)))
    where
      next : (k : ℕ) → suc k + 1 ≡ suc (k + 1)
      next k = omega arith

  -- as a sort of std leaves a list
  pub from_sorted : (xs : List X) → IsSortedBy before xs → AreAscending before xs
  from_sorted [] s = tt
  from_sorted (x ∷ []) s = (refl, tt)
  from_sorted (x ∷ y ∷ ys) s =
      let rest = from_sorted (y ∷ ys) (tail_sorted x (y ∷ ys) s) in
      let first : before y x ≡ false = s 0 x (omega arith) (omega arith) in
      (both (not (before y x)) (list_all (λ z. not (before z x)) ys) (ap not first) (weaker x y ys first rest.0), rest)

  pub sorted_is : (xs ys : List X) → IsSortedBy before ys → TiesStay before xs ys → ys ≡ in_order before xs
  sorted_is xs ys s t = one (in_order before xs) ys (ascends xs) (from_sorted ys s) (λ z. t z ∙ sym (ties_stay xs z))
