-- What is held after one more piece of a text.
use Rattle.std.proofs.Common.{◌≡◌, ℕ, ◌+◌, ◌-◌, List, ◌++◌, take, drop, length, Some, None, refl, sym, ap, ◌∙◌, append_assoc, take-add, length-drop, arith}
use Rattle.std.specs.Prelude.{Option}
use Rattle.std.proofs.lemmas.List.{take_all}
use Rattle.gv_base.specs.Outside.{gains}

pub gains_piece : (held : Option (List ℕ)) (text : List ℕ) (at n : ℕ) → gains (gains held (take at text)) (take n (take (length text - at) (drop at text))) ≡ gains held (take (at + n) text)
gains_piece None text at n = refl
gains_piece (Some hs) text at n =
    let all : take (length text - at) (drop at text) ≡ drop at text = take_all _ (drop at text) (omega (arith, length-drop at text)) in
    ap Some (append_assoc hs _ _ ∙ ap (λ rest. hs ++ (take at text ++ take n rest)) all ∙ ap (λ front. hs ++ front) (sym (take-add at n text)))
