-- Numbers by their digits.
use Rattle.std.proofs.Common.{◌≡◌, ℕ, suc, ◌+◌, ◌-◌, ◌*◌, ◌<◌, ◌≤◌, List, [], ◌∷◌, length, drop, get_or, sym, ap, ◌∙◌, arith}
use Rattle.std.proofs.Common.{drop-cons}
use Rattle.gv_edits.specs.Length.{digits_behind}

at_least : (n : ℕ) (digits : List ℕ) → n ≤ digits_behind n digits
at_least n [] = omega arith
at_least n (b ∷ digits) = let more : n * 10 + (b - 48) ≤ digits_behind (n * 10 + (b - 48)) digits = at_least (n * 10 + (b - 48)) digits in omega arith

-- where a number with its next digit is above the limit, the number of all digits is
pub over : (most n : ℕ) (digits : List ℕ) (i : ℕ) → i < length digits → most < n * 10 + (get_or digits i 0 - 48) → digits_behind n (drop i digits) ≡ digits_behind 0 digits → most < digits_behind 0 digits
over most n digits i lt above so_far =
    let next : suc i ≡ i + 1 = omega arith in
    let split : digits_behind n (drop i digits) ≡ digits_behind n (get_or digits i 0 ∷ drop (i + 1) digits) = ap (digits_behind n) (drop-cons digits i 0 lt) ∙ ap (λ k. digits_behind n (get_or digits i 0 ∷ drop k digits)) next in
    let more : n * 10 + (get_or digits i 0 - 48) ≤ digits_behind (n * 10 + (get_or digits i 0 - 48)) (drop (i + 1) digits) = at_least (n * 10 + (get_or digits i 0 - 48)) (drop (i + 1) digits) in
    let whole : digits_behind (n * 10 + (get_or digits i 0 - 48)) (drop (i + 1) digits) ≡ digits_behind 0 digits = sym split ∙ so_far in
    omega arith
