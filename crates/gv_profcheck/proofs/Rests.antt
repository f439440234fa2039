-- The rest of a list behind its first item, as a pattern on a slice gives it.
use Rattle.std.proofs.Common.{◌≡◌, ◌-◌, List, ◌∷◌, take, length, arith}
use Rattle.std.proofs.lemmas.List.{take_all}

pub rest_of : {X : Type 0} (x : X) (xs : List X) → take (length (x ∷ xs) - 1) xs ≡ xs
rest_of x xs = take_all (length (x ∷ xs) - 1) xs (omega arith)
