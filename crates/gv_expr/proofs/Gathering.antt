-- Flags that are gathered as borrowed texts.
use Rattle.std.proofs.Common.{◌≡◌, ℕ, List, [], ◌∷◌, ◌++◌}
use Rattle.std.specs.Borrow.{Bor}
use Rattle.std.proofs.lemmas.List.{map-append}
use Rattle.gv_expr.specs.Mentions.{texts_of}

pub one_more : (flags : List (Bor (List ℕ))) (flag : Bor (List ℕ)) → texts_of (flags ++ flag ∷ []) ≡ texts_of flags ++ flag.now ∷ []
one_more flags flag = map-append (λ (f : Bor (List ℕ)). f.now) flags (flag ∷ [])
