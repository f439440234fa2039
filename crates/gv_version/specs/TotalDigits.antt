-- Lemmas, and no rule: numbers by their digits, for the proof in `Total` and for other proofs. A longer number that doesn't
-- begin with 0 is greater.
use Rattle.std.proofs.Common.{◌≡◌, ℕ, suc, ◌+◌, ◌*◌, ◌-◌, ◌<◌, ◌≤◌, Bool, true, false, List, [], ◌∷◌, length, take, refl, ap, sym, ◌∙◌, arith}
use Rattle.std.proofs.lemmas.Bool.{and_parts, and_from, eqb-false}
use Rattle.std.specs.Prelude.{fold}
use Rattle.std.specs.Cmp.{nat_cmp_is}
use Rattle.std.specs.List.{list_all, prefix_len}
use Rattle.std.specs.Ordering.{nat_cmp, ordering_then}
use Rattle.std.specs.declared.cmp.Ordering.{Ordering}
use Rattle.std.specs.declared.cmp.Ordering.TheVariants.{Less, Equal, Greater}
use Rattle.gv_version.specs.Bytes.{is_digit, begins_with, front}
use Rattle.gv_version.specs.Order.{number_of, is_zero}

pub is_less : (a b : ℕ) → a < b → nat_cmp a b ≡ Less
is_less a b h = sym (nat_cmp_is a b Less h)

pub is_equal : (a b : ℕ) → a ≡ b → nat_cmp a b ≡ Equal
is_equal a b h = sym (nat_cmp_is a b Equal h)

pub is_greater : (a b : ℕ) → b < a → nat_cmp a b ≡ Greater
is_greater a b h = sym (nat_cmp_is a b Greater h)

pub then_equal : (o : Ordering) → ordering_then o Equal ≡ o
then_equal Less = refl
then_equal Equal = refl
then_equal Greater = refl

-- the number of the digits behind those of n
abbrev pub number_behind : ℕ → List ℕ → ℕ
number_behind n digits = fold (λ n d. 10 * n + (d - 48)) n digits

at_least : (m : ℕ) (ys : List ℕ) → m ≤ number_behind m ys
at_least m [] = omega arith
at_least m (y ∷ ys) = let more = at_least (10 * m + (y - 48)) ys in omega (arith, more)

pub digit_within : (d : ℕ) → is_digit d ≡ true → (48 ≤ d) × (d ≤ 57)
digit_within d h = grind arith

grows : (n m : ℕ) (xs ys : List ℕ) → n < m → length xs ≤ length ys → list_all is_digit xs ≡ true → number_behind n xs < number_behind m ys
grows n m [] ys lt le h = let more = at_least m ys in omega (arith, more)
grows n m (x ∷ xs) [] lt le h = absurd (omega arith)
grows n m (x ∷ xs) (y ∷ ys) lt le h =
    let both = and_parts (is_digit x) (list_all is_digit xs) h in
    let within = digit_within x both.0 in
    let less : 10 * n + (x - 48) < 10 * m + (y - 48) = omega (arith, within.0, within.1) in
    grows (10 * n + (x - 48)) (10 * m + (y - 48)) xs ys less (omega arith) both.1

pub shorter : (x y : List ℕ) → length x < length y → list_all is_digit x ≡ true → list_all is_digit y ≡ true → begins_with is_zero y ≡ false → number_of x < number_of y
shorter x [] lt hx hy first = absurd (omega arith)
shorter x (y ∷ ys) lt hx hy first =
    let both = and_parts (is_digit y) (list_all is_digit ys) hy in
    let within = digit_within y both.0 in
    let apart = eqb-false y 48 first in
    let some : 0 < 10 * 0 + (y - 48) = omega (arith, within.0, apart) in
    grows 0 (10 * 0 + (y - 48)) x ys some (omega arith) hx

pub front_passes : (test : ℕ → Bool) (xs : List ℕ) → list_all test (front test xs) ≡ true
front_passes test [] = refl
front_passes test (x ∷ xs) = by (test x) refl (front_passes test xs)
  where
    by : (u : Bool) → test x ≡ u → list_all test (front test xs) ≡ true → list_all test (front test (x ∷ xs)) ≡ true
    by true e h =
        let more : 1 + prefix_len test xs ≡ suc (prefix_len test xs) = omega arith in
        let whole : front test (x ∷ xs) ≡ x ∷ front test xs = rw e (ap (λ n. take n (x ∷ xs)) more) in
        ap (list_all test) whole ∙ and_from (test x) (list_all test (front test xs)) e h
    by false e h = rw e refl
