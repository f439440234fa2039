-- Zeros at the end of digits.
use Rattle.std.proofs.Common.{◌≡◌, ℕ, ◌+◌, ◌-◌, ◌<◌, ◌≤◌, Bool, true, false, ◌&&◌, List, [], ◌∷◌, ◌++◌, length, take, get_or, refl, ap, sym, ◌∙◌, arith, if◌then◌else◌}
use Rattle.std.proofs.lemmas.Bool.{and_right, ne_eqb}
use Rattle.std.proofs.lemmas.List.{take_more}
use Rattle.std.proofs.lemmas.List.Folds.{list_all-append}
use Rattle.std.specs.List.{list_all}
use Rattle.gv_version.specs.Order.{is_zero, stripped}

all_with : (xs : List ℕ) (b : ℕ) → list_all is_zero (xs ++ b ∷ []) ≡ (list_all is_zero xs && (is_zero b && true))
all_with xs b = list_all-append is_zero xs (b ∷ [])

and_true : (u : Bool) → (u && true) ≡ u
and_true true = refl
and_true false = refl

without_zero : (xs : List ℕ) → stripped (xs ++ 48 ∷ []) ≡ stripped xs
without_zero [] = refl
without_zero (x ∷ xs) = rw (all_with xs 48, and_true (list_all is_zero xs)) (ap (λ r. if is_zero x && list_all is_zero xs then [] else x ∷ r) (without_zero xs))

with_other : (xs : List ℕ) (b : ℕ) → is_zero b ≡ false → stripped (xs ++ b ∷ []) ≡ xs ++ b ∷ []
with_other [] b h = rw h refl
with_other (x ∷ xs) b h =
    let some : list_all is_zero (xs ++ b ∷ []) ≡ false = all_with xs b ∙ and_right (list_all is_zero xs) (is_zero b && true) (ap (λ u. u && true) h) in
    let more : (is_zero x && list_all is_zero (xs ++ b ∷ [])) ≡ false = and_right (is_zero x) (list_all is_zero (xs ++ b ∷ [])) some in
    rw (more, with_other xs b h) refl

last_of : (xs : List ℕ) (e : ℕ) → 0 < e → e ≤ length xs → take e xs ≡ take (e - 1) xs ++ get_or xs (e - 1) 0 ∷ []
last_of xs e some le =
    let more : e ≡ (e - 1) + 1 = omega arith in
    ap (λ n. take n xs) more ∙ take_more xs (e - 1) 0 (omega arith)

pub zero_at_end : (xs : List ℕ) (e : ℕ) → 0 < e → e ≤ length xs → get_or xs (e - 1) 0 ≡ 48 → stripped (take (e - 1) xs) ≡ stripped (take e xs)
zero_at_end xs e some le h = sym (ap stripped (last_of xs e some le ∙ ap (λ b. take (e - 1) xs ++ b ∷ []) h) ∙ without_zero (take (e - 1) xs))

pub no_zero_at_end : (xs : List ℕ) (e : ℕ) → 0 < e → e ≤ length xs → (get_or xs (e - 1) 0 ≡ 48 → ⊥) → take e xs ≡ stripped (take e xs)
no_zero_at_end xs e some le h =
    let last = last_of xs e some le in
    last ∙ sym (ap stripped last ∙ with_other (take (e - 1) xs) (get_or xs (e - 1) 0) (ne_eqb (get_or xs (e - 1) 0) 48 h))
