-- One more byte of a value.
use Rattle.std.proofs.Common.{◌≡◌, ℕ, ◌+◌, ◌<◌, suc, Bool, true, false, List, ◌∷◌, length, get_or, drop, refl, sym, ap, ◌∙◌, Some, None, drop-cons, add-one, arith}
use Rattle.std.specs.Prelude.{Option, if◌then◌else◌}
use Rattle.std.specs.Option.{option_map}
use Rattle.gv_defaults.specs.declared.quotes.Quotes.{Quotes}
use Rattle.gv_defaults.specs.Quotes.{len_in, ends, escapes, quotes_after}

shifted : (i : ℕ) (o : Option ℕ) → option_map (λ n. i + n) (option_map suc o) ≡ option_map (λ n. i + 1 + n) o
shifted i None = refl
shifted i (Some n) = let e : i + suc n ≡ i + 1 + n = omega arith in ap Some e

pub taken_along : (bytes : List ℕ) (i : ℕ) (quotes : Quotes) (all : Option ℕ) → i < length bytes → option_map (λ n. i + n) (len_in quotes true (drop i bytes)) ≡ all →
    option_map (λ n. i + 1 + n) (len_in quotes false (drop (i + 1) bytes)) ≡ all
taken_along bytes i quotes all within so_far =
    let next : drop i bytes ≡ get_or bytes i 0 ∷ drop (i + 1) bytes = rw add-one (drop-cons bytes i 0 within) in
    sym (shifted i _) ∙ (rw next at so_far)

pub went_on : (bytes : List ℕ) (i b : ℕ) (quotes : Quotes) (all : Option ℕ) → i < length bytes → b ≡ get_or bytes i 0 → ends quotes b ≡ false → option_map (λ n. i + n) (len_in quotes false (drop i bytes)) ≡ all →
    option_map (λ n. i + 1 + n) (len_in (quotes_after quotes b) (escapes quotes b) (drop (i + 1) bytes)) ≡ all
went_on bytes i b quotes all within at stays so_far =
    let next : drop i bytes ≡ b ∷ drop (i + 1) bytes = rw (add-one, at) (drop-cons bytes i 0 within) in
    sym (shifted i _) ∙ (rw (next, stays) at so_far)

pub one_more : (bytes : List ℕ) (i b : ℕ) (quotes next : Quotes) (taken takes : Bool) (all : Option ℕ) → i < length bytes → b ≡ get_or bytes i 0 → (if taken then false else ends quotes b) ≡ false →
    next ≡ (if taken then quotes else quotes_after quotes b) → takes ≡ (if taken then false else escapes quotes b) →
    option_map (λ n. i + n) (len_in quotes taken (drop i bytes)) ≡ all → option_map (λ n. i + 1 + n) (len_in next takes (drop (i + 1) bytes)) ≡ all
one_more bytes i b quotes next true takes all within at stays q t so_far = rw (q, t) (taken_along bytes i quotes all within so_far)
one_more bytes i b quotes next false takes all within at stays q t so_far = rw (q, t) (went_on bytes i b quotes all within at stays so_far)
