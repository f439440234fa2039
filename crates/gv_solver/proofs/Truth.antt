-- Values of literals.
use Rattle.std.proofs.Common.{◌≡◌, ◌⊎◌, inl, inr, ℕ, ◌+◌, ◌*◌, ◌/◌, ◌%◌, ◌<◌, Bool, true, false, not, List, [], ◌∷◌, ◌++◌, length, refl, ap, ◌∙◌, length-append, arith}
use Rattle.std.proofs.lemmas.Bool.{cases_lt}
use Rattle.gv_logic.specs.Literals.{lit_true}
use Rattle.gv_logic.specs.Circuits.{Gate, at, gate_value, values_from}
use Rattle.gv_logic.specs.Opposites.{get_end, get_front}

pub not_true_is : (b : Bool) → (b ≡ false → ⊥) → b ≡ true
not_true_is true f = refl
not_true_is false f = absurd (f refl)

pub true_not : (b : Bool) → not b ≡ true → b ≡ false
true_not true e = cc
true_not false e = refl

pub even_or_odd : (l : ℕ) → (l ≡ 2 * (l / 2)) ⊎ (l ≡ 2 * (l / 2) + 1)
even_or_odd l = elim (cases_lt (l % 2) 1) [ inl s ↦ inl (omega (arith, s)) | inr s ↦ inr (omega (arith, s)) ]

pub front_lit : (vals : List Bool) (b : Bool) (l : ℕ) → l < 2 * length vals → lit_true (at (vals ++ b ∷ [])) l ≡ lit_true (at vals) l
front_lit vals b l lt = let h : l / 2 < length vals = omega (arith, lt) in rw (get_front vals b (l / 2) h) refl

pub lit_even : (vals : List Bool) (b : Bool) → lit_true (at (vals ++ b ∷ [])) (2 * length vals) ≡ b
lit_even vals b = let r : (2 * length vals) % 2 ≡ 0 = omega arith in let d : (2 * length vals) / 2 ≡ length vals = omega arith in rw (r, d) (get_end vals b)

pub lit_odd : (vals : List Bool) (b : Bool) → lit_true (at (vals ++ b ∷ [])) (2 * length vals + 1) ≡ not b
lit_odd vals b = let r : (2 * length vals + 1) % 2 ≡ 1 = omega arith in let d : (2 * length vals + 1) / 2 ≡ length vals = omega arith in rw (r, d) (ap not (get_end vals b))

pub values_long : (vals : List Bool) (gs : List Gate) → length (values_from vals gs) ≡ length vals + length gs
values_long vals [] = omega arith
values_long vals (g ∷ gs) = let h = values_long (vals ++ gate_value (at vals) g ∷ []) gs in h ∙ omega (arith, length-append vals (gate_value (at vals) g ∷ []))
