-- The bytes of short numbers as they are told in words.
use Rattle.std.proofs.Common.{◌≡◌, inl, inr, ℕ, zero, suc, ◌+◌, ◌*◌, ◌/◌, ◌%◌, ◌<◌, ◌≤◌, List, [], ◌∷◌, length, refl, sym, subst, ap, ◌∙◌, arith}
use Rattle.std.proofs.lemmas.Bool.{cases_lt}
use Rattle.gv_cert.specs.Numbers.{short_within, short_bytes}
use Rattle.gv_cert.specs.Reader.{IsShort}
use Rattle.gv_cert.specs.Short.{short_value, IsShortForm, ShortLaw}
use Rattle.gv_cert.proofs.Shorts.{short_last, short_next}

-- of a number that has at most so many more bytes than one
record IsWithin (more n : ℕ) (bytes : List ℕ) : Type 0 where
  pub form : IsShortForm bytes
  pub few : length bytes ≤ more + 1
  pub value : short_value bytes ≡ n

last_is : (more n : ℕ) → n < 128 → IsWithin more n (n ∷ [])
last_is more n l = record { form = l; few = omega arith; value = omega (arith, l) }

-- one byte more in front
front : (more n : ℕ) (bytes : List ℕ) → 128 ≤ n → IsWithin more (n / 128) bytes → IsWithin (suc more) n ((128 + n % 128) ∷ bytes)
front more n [] l w = absurd w.form
front more n (c ∷ bs) l w = record {
  form = (omega arith, omega arith, not_zero, w.form);
  few = omega (arith, w.few);
  value = omega (arith, w.value);
}
  where
    not_zero : (c ∷ bs) ≡ 0 ∷ [] → ⊥
    not_zero e = absurd (omega (arith, l, w.value, ap short_value e))

within : (more n : ℕ) → IsShort more n → IsWithin more n (short_within more n)
within zero n is = last_is zero n (omega (arith, is))
within (suc more) n is =
    elim (cases_lt n 128) [
      | inl l ↦ subst (IsWithin (suc more) n) (sym (short_last (suc more) n l)) (last_is (suc more) n l)
      | inr l ↦ subst (IsWithin (suc more) n) (sym (short_next more n l)) (front more n (short_within more (n / 128)) l (within more (n / 128) (omega (arith, is))))
    ]

-- a form of two bytes or more has a value of 128 or more
zero_is : (bytes : List ℕ) → IsShortForm bytes → short_value bytes ≡ 0 → bytes ≡ 0 ∷ []
zero_is [] f v = absurd f
zero_is (b ∷ []) f v = let same : b ≡ 0 = omega (arith, f, v) in ap (λ k. k ∷ []) same
zero_is (b ∷ c ∷ bs) f v = absurd (f.2 (zero_is (c ∷ bs) f.3 (omega (arith, v))))

written : (more : ℕ) (bytes : List ℕ) → IsShortForm bytes → length bytes ≤ more + 1 → short_within more (short_value bytes) ≡ bytes
written more [] f few = absurd f
written more (b ∷ []) f few = let same : short_value (b ∷ []) ≡ b = omega (arith, f) in ap (λ k. short_within more k) same ∙ short_last more b f
written zero (b ∷ c ∷ bs) f few = absurd (omega (arith, few))
written (suc more) (b ∷ c ∷ bs) f few = by (short_value (c ∷ bs)) refl (written more (c ∷ bs) f.3 (omega (arith, few)))
  where
    by : (v : ℕ) → short_value (c ∷ bs) ≡ v → short_within more (short_value (c ∷ bs)) ≡ c ∷ bs → short_within (suc more) (short_value (b ∷ c ∷ bs)) ≡ b ∷ c ∷ bs
    by zero is later = absurd (f.2 (zero_is (c ∷ bs) f.3 is))
    by (suc v) is later =
        let n : ℕ = b % 128 + 128 * short_value (c ∷ bs) in
        let big : 128 ≤ n = omega (arith, is) in
        let low : 128 + n % 128 ≡ b = omega (arith, f.0, f.1) in
        let high : n / 128 ≡ short_value (c ∷ bs) = omega arith in
        short_next more n big ∙ ap (λ k. k ∷ short_within more (n / 128)) low ∙ ap (λ k. b ∷ short_within more k) high ∙ ap (λ ks. b ∷ ks) later

pub short_law : ShortLaw
unfolding short_bytes
short_law n bytes few = (
  (λ e. let w = subst (IsWithin 4 n) e (within 4 n (omega (arith, few))) in record { form = w.form; few = omega (arith, w.few); value = w.value }),
  λ is. ap (λ k. short_within 4 k) (sym is.value) ∙ written 4 bytes is.form (omega (arith, is.few)),
)
