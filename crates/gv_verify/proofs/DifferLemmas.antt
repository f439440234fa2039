-- How far two texts agree.
use Rattle.std.proofs.Common.{◌≡◌, ℕ, zero, suc, ◌+◌, ◌<◌, ◌≤◌, List, [], ◌∷◌, ◌++◌, length, take, drop, get_or, refl, sym, ap, ◌∙◌, arith}
use Rattle.gv_verify.specs.Differing.{AreApart, DifferAt}

-- they agree up to here
pub record Agree (one two : List ℕ) (n : ℕ) : Type 0 where
  pub same : take n one ≡ take n two
  pub in_one : n ≤ length one
  pub in_two : n ≤ length two

cut : (xs : List ℕ) (n : ℕ) → xs ≡ take n xs ++ drop n xs
cut [] zero = refl
cut [] (suc n) = refl
cut (x ∷ xs) zero = refl
cut (x ∷ xs) (suc n) = ap (λ ys. x ∷ ys) (cut xs n)

long : (xs : List ℕ) (n : ℕ) → n ≤ length xs → n ≡ length (take n xs)
long [] zero h = refl
long [] (suc n) h = absurd (omega (arith, h))
long (x ∷ xs) zero h = refl
long (x ∷ xs) (suc n) h = ap suc (long xs n (omega (arith, h)))

apart_behind : (one two : List ℕ) (n x y : ℕ) → n < length one → n < length two → (get_or one n x ≡ get_or two n y → ⊥) → AreApart (drop n one) (drop n two)
apart_behind [] two n x y l m d = absurd (omega (arith, l))
apart_behind (a ∷ us) [] n x y l m d = absurd (omega (arith, m))
apart_behind (a ∷ us) (b ∷ ws) zero x y l m d = d
apart_behind (a ∷ us) (b ∷ ws) (suc n) x y l m d = apart_behind us ws n x y (omega (arith, l)) (omega (arith, m)) d

apart_at_end : (one two : List ℕ) (n : ℕ) → n < length one → length two ≤ n → AreApart (drop n one) (drop n two)
apart_at_end [] two n l m = absurd (omega (arith, l))
apart_at_end (a ∷ us) [] zero l m = tt
apart_at_end (a ∷ us) [] (suc n) l m = more us n (omega (arith, l))
  where
    more : (xs : List ℕ) (k : ℕ) → k < length xs → AreApart (drop k xs) []
    more [] k h = absurd (omega (arith, h))
    more (x ∷ xs) zero h = tt
    more (x ∷ xs) (suc k) h = more xs k (omega (arith, h))
apart_at_end (a ∷ us) (b ∷ ws) zero l m = absurd (omega (arith, m))
apart_at_end (a ∷ us) (b ∷ ws) (suc n) l m = apart_at_end us ws n (omega (arith, l)) (omega (arith, m))

turned : (xs ys : List ℕ) → AreApart xs ys → AreApart ys xs
turned [] [] h = h
turned [] (y ∷ ys) h = tt
turned (x ∷ xs) [] h = tt
turned (x ∷ xs) (y ∷ ys) h = λ e. h (sym e)

module _ (one two : List ℕ) (n : ℕ) (agree : Agree one two n) where
  there : AreApart (drop n one) (drop n two) → DifferAt one two n
  there h = record {
    front = take n one;
    one_rest = drop n one;
    two_rest = drop n two;
    one_is = cut one n;
    two_is = cut two n ∙ ap (λ f. f ++ drop n two) (sym agree.same);
    place = long one n agree.in_one;
    apart = h;
  }

  -- another byte
  pub differ_here : (x y : ℕ) → n < length one → n < length two → (get_or one n x ≡ get_or two n y → ⊥) → DifferAt one two n
  differ_here x y l m d = there (apart_behind one two n x y l m d)

  -- the second is at its end, and the first isn't
  pub differ_longer : n < length one → length two ≤ n → DifferAt one two n
  differ_longer l m = there (apart_at_end one two n l m)

  -- the other way round
  pub differ_shorter : length one ≤ n → n < length two → DifferAt one two n
  differ_shorter l m = there (turned (drop n two) (drop n one) (apart_at_end two one n m l))

taken : (one two : List ℕ) (n : ℕ) → take n one ≡ take n two → length one ≤ n → length two ≤ n → one ≡ two
taken one two n e l m = whole one n l ∙ (e ∙ sym (whole two n m))
  where
    whole : (xs : List ℕ) (k : ℕ) → length xs ≤ k → xs ≡ take k xs
    whole [] zero h = refl
    whole [] (suc k) h = refl
    whole (x ∷ xs) zero h = absurd (omega (arith, h))
    whole (x ∷ xs) (suc k) h = ap (λ ys. x ∷ ys) (whole xs k (omega (arith, h)))

pub all_same : (one two : List ℕ) (n : ℕ) → Agree one two n → length one ≤ n → length two ≤ n → one ≡ two
all_same one two n agree l m = taken one two n agree.same l m

one_more : (xs : List ℕ) (n x : ℕ) → n < length xs → take (n + 1) xs ≡ take n xs ++ get_or xs n x ∷ []
one_more [] n x h = absurd (omega (arith, h))
one_more (a ∷ us) zero x h = refl
one_more (a ∷ us) (suc n) x h =
    let more : suc n + 1 ≡ suc (n + 1) = omega arith in
    ap (λ k. take k (a ∷ us)) more ∙ ap (λ ys. a ∷ ys) (one_more us n x (omega (arith, h)))

pub agree_more : (one two : List ℕ) (n x y : ℕ) → Agree one two n → n < length one → n < length two → get_or one n x ≡ get_or two n y → Agree one two (n + 1)
agree_more one two n x y agree l m e = record {
  same = one_more one n x l ∙ (ap (λ f. f ++ get_or one n x ∷ []) agree.same ∙ (ap (λ b. take n two ++ b ∷ []) e ∙ sym (one_more two n y m)));
  in_one = omega (arith, l);
  in_two = omega (arith, m);
}
