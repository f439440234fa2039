-- A name in braces.
use Rattle.std.proofs.Common.{◌≡◌, ℕ, ◌+◌, ◌<◌, suc, List, [], ◌∷◌, length, get_or, take, drop, refl, ap, ◌∙◌, Some, None, drop-cons, arith, inl, inr}
use Rattle.std.proofs.lemmas.Bool.{lt-ltb, ne_eqb}
use Rattle.std.proofs.lemmas.List.{length-take-le, drop_all}
use Rattle.std.proofs.lemmas.Bool.{cases_lt}
use Rattle.gv_defaults.specs.Names.{name_len, braced, braced_at}

brace : (name rest : List ℕ) → 0 < length name → braced name (125 ∷ rest) ≡ Some (record { name = name; len = length name + 2 })
brace name rest some = rw (lt-ltb 0 (length name) some) refl

pub closed : (bytes : List ℕ) (n : ℕ) → n ≡ name_len bytes → 0 < n → n < length bytes → get_or bytes n 0 ≡ 125 →
    braced_at bytes ≡ Some (record { name = take n bytes; len = n + 2 })
closed bytes n is some within at =
    let long : length (take n bytes) ≡ n = length-take-le n bytes (omega arith) in
    let next : drop n bytes ≡ 125 ∷ drop (suc n) bytes = drop-cons bytes n 0 within ∙ ap (λ b. b ∷ drop (suc n) bytes) at in
    rw (← is, next, brace (take n bytes) (drop (suc n) bytes) (omega (arith, long)), long) refl

other : (name rest : List ℕ) (b : ℕ) → (0 < length name → b ≡ 125 → ⊥) → braced name (b ∷ rest) ≡ None
other [] rest b none = refl
other (a ∷ name) rest b none = rw (lt-ltb 0 (length (a ∷ name)) (omega arith), ne_eqb b 125 (none (omega arith))) refl

pub not_closed : (bytes : List ℕ) (n : ℕ) → n ≡ name_len bytes → (0 < n → n < length bytes → get_or bytes n 0 ≡ 125 → ⊥) → braced_at bytes ≡ None
not_closed bytes n is none = elim (cases_lt n (length bytes)) [
  | inl within ↦
      let long : length (take n bytes) ≡ n = length-take-le n bytes (omega arith) in
      rw (← is, drop-cons bytes n 0 within, other (take n bytes) (drop (suc n) bytes) (get_or bytes n 0) (λ some at. none (omega (arith, long)) within at)) refl
  | inr past ↦ rw (← is, drop_all n bytes past) refl
]
