-- Products that are told up to the last number.
use Rattle.std.proofs.Common.{◌≡◌, ℕ, zero, suc, ◌-◌, ◌*◌, ◌^◌, ◌<◌, ◌≤◌, Bool, true, false, refl, sym, ap, ◌∙◌, arith}
use Rattle.std.specs.Prelude.{nat_lt}
use Rattle.std.proofs.Math.Nat.{le_of_eq, min-eq_left, min-eq_right, mul-le-mul_left, mul-zero, mul_comm, zero-mul}
use Rattle.std.proofs.lemmas.Bool.{ltb-true, ltb-false}
use Rattle.gv_lower.specs.Weigh.{capped}

past : (n : ℕ) → 2 ^ 64 - 1 ≤ n → capped n ≡ 2 ^ 64 - 1
past n le = min-eq_right le

-- one factor is past the last number, and the other isn't zero
grown : (a b : ℕ) → 2 ^ 64 - 1 ≤ a → 1 ≤ b → capped (a * b) ≡ 2 ^ 64 - 1
grown a b big some = let more = mul-le-mul_left a some in past (a * b) (omega (arith, big, more))

some_left : (n : ℕ) → 1 ≤ capped (suc n)
some_left n = omega arith

last_left : (n : ℕ) → 2 ^ 64 - 1 < n → 2 ^ 64 - 1 ≤ capped n
last_left n lt = le_of_eq (sym (past n (omega (arith, lt))))

pub product : (x y : ℕ) → capped (capped x * capped y) ≡ capped (x * y)
product x zero = ap capped (mul-zero (capped x) ∙ sym (mul-zero x))
product zero (suc y) = ap capped (zero-mul (capped (suc y)) ∙ sym (zero-mul (suc y)))
product (suc x) (suc y) = by (nat_lt (2 ^ 64 - 1) (suc x)) (nat_lt (2 ^ 64 - 1) (suc y)) refl refl
  where
    by : (p q : Bool) → nat_lt (2 ^ 64 - 1) (suc x) ≡ p → nat_lt (2 ^ 64 - 1) (suc y) ≡ q → capped (capped (suc x) * capped (suc y)) ≡ capped (suc x * suc y)
    by false false p q =
        ap (λ a. capped (a * capped (suc y))) (min-eq_left (ltb-false (2 ^ 64 - 1) (suc x) p)) ∙ ap (λ b. capped (suc x * b)) (min-eq_left (ltb-false (2 ^ 64 - 1) (suc y) q))
    by true q p r =
        let lt = ltb-true (2 ^ 64 - 1) (suc x) p in
        grown (capped (suc x)) (capped (suc y)) (last_left (suc x) lt) (some_left y) ∙ sym (grown (suc x) (suc y) (omega (arith, lt)) (omega arith))
    by false true p q =
        let lt = ltb-true (2 ^ 64 - 1) (suc y) q in
        (ap capped (mul_comm (capped (suc x)) (capped (suc y))) ∙ grown (capped (suc y)) (capped (suc x)) (last_left (suc y) lt) (some_left x))
        ∙ sym (ap capped (mul_comm (suc x) (suc y)) ∙ grown (suc y) (suc x) (omega (arith, lt)) (omega arith))
