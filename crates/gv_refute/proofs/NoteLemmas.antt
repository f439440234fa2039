-- Notes stay true as literals are marked and unmarked.
use Rattle.std.proofs.Common.{◌≡◌, ◌⊎◌, inl, inr, ℕ, zero, suc, ◌+◌, ◌<◌, ◌≤◌, Bool, true, false, List, [], ◌∷◌, ◌++◌, length, get_or, refl, sym, ap, length-append, arith}
use Rattle.std.specs.Prelude.{slice_set, replicate}
use Rattle.std.proofs.Math.ListN.{length-set}
use Rattle.gv_logic.specs.Partial.{is_true, trues, Has}
use Rattle.gv_refute.specs.Marks.{IsNoted}

trues_set : (on : List Bool) (i : ℕ) → i < length on → get_or on i false ≡ false → trues (slice_set on i true) ≡ trues on + 1
trues_set [] i lt e = absurd (omega arith)
trues_set (true ∷ bs) zero lt e = cc
trues_set (false ∷ bs) zero lt e = refl
trues_set (true ∷ bs) (suc i) lt e = let h = trues_set bs i (omega arith) e in omega arith
trues_set (false ∷ bs) (suc i) lt e = trues_set bs i (omega arith) e

trues-le : (on : List Bool) → trues on ≤ length on
trues-le [] = omega arith
trues-le (true ∷ bs) = omega (arith, trues-le bs)
trues-le (false ∷ bs) = omega (arith, trues-le bs)

trues_replicate : (n : ℕ) → trues (replicate n false) ≡ 0
trues_replicate zero = refl
trues_replicate (suc n) = trues_replicate n

none_true : (n k : ℕ) → get_or (replicate n false) k false ≡ true → ⊥
none_true zero k e = cc
none_true (suc n) zero e = cc
none_true (suc n) (suc k) e = none_true n k e

set_is : (a : List Bool) (i k : ℕ) → get_or (slice_set a i true) k false ≡ true → (k ≡ i) ⊎ (get_or a k false ≡ true)
set_is [] i k e = inr e
set_is (x ∷ xs) zero zero e = inl refl
set_is (x ∷ xs) zero (suc k) e = inr e
set_is (x ∷ xs) (suc i) zero e = inr e
set_is (x ∷ xs) (suc i) (suc k) e = elim (set_is xs i k e) [ inl h ↦ inl (ap suc h) | inr h ↦ inr h ]

unset_is : (a : List Bool) (i k : ℕ) → get_or (slice_set a i false) k false ≡ true → (k ≡ i → ⊥) × (get_or a k false ≡ true)
unset_is [] i k e = cc
unset_is (x ∷ xs) zero zero e = cc
unset_is (x ∷ xs) zero (suc k) e = (λ h. absurd (omega (arith, h)), e)
unset_is (x ∷ xs) (suc i) zero e = (λ h. absurd (omega (arith, h)), e)
unset_is (x ∷ xs) (suc i) (suc k) e = let h = unset_is xs i k e in (λ s. h.0 (omega (arith, s)), h.1)

has_more : (k : ℕ) (xs ys : List ℕ) → Has k xs → Has k (xs ++ ys)
has_more k [] ys h = absurd h
has_more k (x ∷ xs) ys h = elim h [ inl s ↦ inl s | inr t ↦ inr (has_more k xs ys t) ]

has_end : (k : ℕ) (xs : List ℕ) → Has k (xs ++ k ∷ [])
has_end k [] = inl refl
has_end k (x ∷ xs) = inr (has_end k xs)

has_front : (k n : ℕ) (xs : List ℕ) → (k ≡ n → ⊥) → Has k (xs ++ n ∷ []) → Has k xs
has_front k n [] no_ h = elim h [ inl s ↦ absurd (no_ (sym s)) | inr t ↦ absurd t ]
has_front k n (x ∷ xs) no_ h = elim h [ inl s ↦ inl s | inr t ↦ inr (has_front k n xs no_ t) ]

-- nothing is marked and nothing noted
pub noted_new : (n : ℕ) (on : List Bool) (noted : List ℕ) → on ≡ replicate n false → noted ≡ [] → IsNoted on noted
noted_new n on noted p q = rw (p, q) (record { all = λ lit t. absurd (none_true n lit t); once = sym (trues_replicate n) })

pub noted_set : (on : List Bool) (noted more : List ℕ) (lit : ℕ) → lit < length on → is_true on lit ≡ false → more ≡ noted ++ lit ∷ [] → IsNoted on noted → IsNoted (slice_set on lit true) more
noted_set on noted more lit lt free e n = rw e (record {
  all = λ k t. elim (set_is on lit k t) [ inl s ↦ rw s (has_end lit noted) | inr h ↦ has_more k noted (lit ∷ []) (n.all k h) ];
  once = omega (arith, length-append noted (lit ∷ []), n.once, trues_set on lit lt free);
})

-- there is room for one more note
pub noted_room : (on : List Bool) (noted : List ℕ) (lit : ℕ) → lit < length on → is_true on lit ≡ false → IsNoted on noted → length noted < length on
noted_room on noted lit lt free n = omega (arith, n.once, trues_set on lit lt free, trues-le (slice_set on lit true), length-set on lit true)

-- each mark is noted
abbrev pub AreNoted : List Bool → List ℕ → Type 0
AreNoted on noted = (lit : ℕ) → is_true on lit ≡ true → Has lit noted

pub unmarked : (on : List Bool) (before after : List ℕ) (lit : ℕ) → before ≡ after ++ lit ∷ [] → AreNoted on before → AreNoted (slice_set on lit false) after
unmarked on before after lit e a k t = let h = unset_is on lit k t in has_front k lit after h.0 (rw e at (a k h.1))

past : (on : List Bool) (lit : ℕ) → length on ≤ lit → is_true on lit ≡ true → ⊥
past [] lit le t = cc
past (b ∷ bs) zero le t = absurd (omega (arith, le))
past (b ∷ bs) (suc lit) le t = past bs lit (omega (arith, le)) t

pub unmarked_past : (on : List Bool) (before after : List ℕ) (lit : ℕ) → before ≡ after ++ lit ∷ [] → length on ≤ lit → AreNoted on before → AreNoted on after
unmarked_past on before after lit e le a k t = has_front k lit after (λ s. past on k (omega (arith, le, s)) t) (rw e at (a k t))

-- no mark is left
pub none_left : (n : ℕ) (on : List Bool) → length on ≡ n → AreNoted on [] → on ≡ replicate n false
none_left zero [] l a = refl
none_left (suc n) [] l a = absurd (omega (arith, l))
none_left zero (b ∷ bs) l a = absurd (omega (arith, l))
none_left (suc n) (true ∷ bs) l a = absurd (a 0 refl)
none_left (suc n) (false ∷ bs) l a = ap (λ xs. false ∷ xs) (none_left n bs (omega (arith, l)) (λ k t. a (suc k) t))

-- so the marks are as new ones
pub cleared : (n : ℕ) (on : List Bool) (before after : List ℕ) → length before ≡ 0 → length after ≡ 0 → length on ≡ n → AreNoted on before → (on ≡ replicate n false) × IsNoted on after
cleared n on [] [] p q l a = let e = none_left n on l a in (e, noted_new n on [] e refl)
cleared n on (b ∷ bs) after p q l a = absurd (omega (arith, p))
cleared n on [] (a ∷ as_) p q l h = absurd (omega (arith, q))
