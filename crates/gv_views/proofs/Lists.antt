-- Lists gone through from their ends, and what is behind them.
use Rattle.std.proofs.Common.{◌≡◌, ◌<◌, ◌≤◌, ◌+◌, ◌-◌, ℕ, suc, List, [], ◌∷◌, ◌++◌, length, get_or, drop, refl, sym, ap, ◌∙◌, append_assoc, arith}
use Rattle.std.specs.Prelude.{reverse}
use Rattle.std.proofs.Math.ListN.{drop_of_length-le}
use Rattle.std.proofs.Math.Seq.{drop-cons}
use Rattle.std.proofs.lemmas.List.{get_or-reverse, length-reverse}
use Rattle.gv_base.specs.Cut.{up_to_first}

pub reversed_next : (xs old new whole : List (List ℕ)) (i : ℕ) (x : List ℕ) → i < length xs → x ≡ get_or xs (length xs - 1 - i) x → new ≡ old ++ x ∷ [] → old ++ drop i (reverse xs) ≡ whole → new ++ drop (i + 1) (reverse xs) ≡ whole
reversed_next xs old new whole i x lt here more on =
    let lt' : i < length (reverse xs) = omega (arith, lt, length-reverse xs) in
    let next : suc i ≡ i + 1 = omega arith in
    let is : get_or (reverse xs) i x ≡ x = get_or-reverse xs i x lt ∙ sym here in
    let split : drop i (reverse xs) ≡ x ∷ drop (i + 1) (reverse xs) = drop-cons (reverse xs) i x lt' ∙ (ap (λ y. y ∷ drop (suc i) (reverse xs)) is ∙ ap (λ n. x ∷ drop n (reverse xs)) next) in
    ap (λ l. l ++ drop (i + 1) (reverse xs)) more ∙ (append_assoc old (x ∷ []) (drop (i + 1) (reverse xs)) ∙ (ap (λ l. old ++ l) (sym split) ∙ on))

pub nothing_behind : (line : List ℕ) → length line ≤ length (up_to_first 61 line) → [] ≡ drop (length (up_to_first 61 line) + 1) line
nothing_behind line le = let more : length line ≤ length (up_to_first 61 line) + 1 = omega (arith, le) in sym (drop_of_length-le line more)
