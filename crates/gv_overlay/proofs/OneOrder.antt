-- A list in an order, in which those that tie stand as they were given, is the only such list.
use Rattle.std.proofs.Common.{◌≡◌, ℕ, suc, ◌<◌, ◌≤◌, Bool, true, false, not, ◌&&◌, cond, List, [], ◌∷◌, length, filter, get_or, refl, sym, ap, ◌∙◌, arith}
use Rattle.std.specs.Cmp.{IsStrictWeakOrder}
use Rattle.std.specs.List.Sorted.{IsSortedBy, IsStableBy, ties}
use Rattle.std.proofs.lemmas.Bool.{false≢true}
use Rattle.std.proofs.lemmas.List.Sorted.{sorted_far}

left_off : (a b : Bool) → (not a && not b) ≡ true → a ≡ false
left_off true b e = absurd (false≢true e)
left_off false b e = refl

abbrev first : {A : Type 0} → A → List A → A
first d [] = d
first d (x ∷ xs) = x

abbrev others : {A : Type 0} → List A → List A
others [] = []
others (x ∷ xs) = xs

abbrev is_some : {A : Type 0} → List A → Bool
is_some [] = false
is_some (x ∷ xs) = true

not_none : {A : Type 0} (x : A) (xs : List A) → x ∷ xs ≡ [] → ⊥
not_none x xs e = false≢true (sym (ap is_some e))

module _ {X : Type 0} (lt : X → X → Bool) (order : IsStrictWeakOrder lt) where
  -- none of them is less
  abbrev Least : X → List X → Type 0
  Least x [] = Unit {0}
  Least x (y ∷ ys) = (lt y x ≡ false) × Least x ys

  -- none is less than one before it
  abbrev Up : List X → Type 0
  Up [] = Unit {0}
  Up (x ∷ xs) = Least x xs × Up xs

  least_of : (x : X) (xs : List X) → ((k : ℕ) → k < length xs → lt (get_or xs k x) x ≡ false) → Least x xs
  least_of x [] h = tt
  least_of x (y ∷ ys) h = (h 0 (omega arith), least_of x ys (λ k p. h (suc k) (omega arith)))

  up_of : (xs : List X) → ((i j : ℕ) (d : X) → i ≤ j → j < length xs → lt (get_or xs j d) (get_or xs i d) ≡ false) → Up xs
  up_of [] h = tt
  up_of (x ∷ xs) h = (least_of x xs (λ k p. h 0 (suc k) x (omega arith) (omega arith)), up_of xs (λ i j d p q. h (suc i) (suc j) d (omega arith) (omega arith)))

  not_itself : (x : X) → lt x x ≡ false
  not_itself x = by (lt x x) refl
    where
      by : (b : Bool) → lt x x ≡ b → lt x x ≡ false
      by true e = order.one_way x x e
      by false e = e

  tied : (x y : X) → lt x y ≡ false → lt y x ≡ false → ties lt x y ≡ true
  tied x y p q = λ i. not (p i) && not (q i)

  kept : (x y : X) (ys : List X) → ties lt x y ≡ true → filter (ties lt x) (y ∷ ys) ≡ y ∷ filter (ties lt x) ys
  kept x y ys e = ap (λ b. cond b (y ∷ filter (ties lt x) ys) (filter (ties lt x) ys)) e

  own_kept : (x : X) (xs : List X) → filter (ties lt x) (x ∷ xs) ≡ x ∷ filter (ties lt x) xs
  own_kept x xs = kept x x xs (tied x x (not_itself x) (not_itself x))

  -- where one of some ties with x, and none of them is less than z, x isn't less than z
  not_less : (x z : X) (es : List X) → Least z es → (filter (ties lt x) es ≡ [] → ⊥) → lt x z ≡ false
  not_less x z [] least some = absurd (some refl)
  not_less x z (e ∷ es) least some = by (ties lt x e) refl (λ others. not_less x z es least.1 others)
    where
      by : (b : Bool) → ties lt x e ≡ b → ((filter (ties lt x) es ≡ [] → ⊥) → lt x z ≡ false) → lt x z ≡ false
      by true t rest = order.chain x e z (left_off (lt x e) (lt e x) t) least.0
      by false t rest = rest (λ none. some (ap (λ b. cond b (e ∷ filter (ties lt x) es) (filter (ties lt x) es)) t ∙ none))

  one : (ys zs : List X) → Up ys → Up zs → ((x : X) → filter (ties lt x) ys ≡ filter (ties lt x) zs) → ys ≡ zs
  one [] [] up up' same = refl
  one [] (z ∷ zs) up up' same = absurd (not_none z (filter (ties lt z) zs) (sym (own_kept z zs) ∙ sym (same z)))
  one (y ∷ ys) [] up up' same = absurd (not_none y (filter (ties lt y) ys) (sym (own_kept y ys) ∙ same y))
  one (y ∷ ys) (z ∷ zs) up up' same = ap (λ x. x ∷ ys) heads ∙ ap (λ l. z ∷ l) (one ys zs up.1 up'.1 tails)
    where
      y_not_less : lt y z ≡ false
      y_not_less = not_less y z (z ∷ zs) (not_itself z, up'.0) (λ none. not_none y (filter (ties lt y) ys) (sym (own_kept y ys) ∙ (same y ∙ none)))

      z_not_less : lt z y ≡ false
      z_not_less = not_less z y (y ∷ ys) (not_itself y, up.0) (λ none. not_none z (filter (ties lt z) zs) (sym (own_kept z zs) ∙ (sym (same z) ∙ none)))

      heads : y ≡ z
      heads = ap (first y) (sym (own_kept y ys) ∙ (same y ∙ kept y z zs (tied y z y_not_less z_not_less)))

      tails : (x : X) → filter (ties lt x) ys ≡ filter (ties lt x) zs
      tails x = by (ties lt x y) (same x ∙ ap (λ w. filter (ties lt x) (w ∷ zs)) (sym heads))
        where
          by : (b : Bool) → cond b (y ∷ filter (ties lt x) ys) (filter (ties lt x) ys) ≡ cond b (y ∷ filter (ties lt x) zs) (filter (ties lt x) zs) → filter (ties lt x) ys ≡ filter (ties lt x) zs
          by true e = ap others e
          by false e = e

  pub sorted_one : (xs ys zs : List X) → IsSortedBy lt ys → IsStableBy lt xs ys → IsSortedBy lt zs → IsStableBy lt xs zs → ys ≡ zs
  sorted_one xs ys zs up stable up' stable' =
      one ys zs (up_of ys (sorted_far lt order ys up)) (up_of zs (sorted_far lt order zs up')) (λ x. stable x ∙ sym (stable' x))
