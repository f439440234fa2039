-- What is refused for its flags or its weight.
use Rattle.std.proofs.Common.{◌≡◌, ℕ, ◌≤◌, List, length, ap}
use Rattle.std.specs.Prelude.{Err, Some, unwrap_or}
use Rattle.gv_lower.specs.Lowering.{LightWeight, Lowered}
use Rattle.gv_lower.specs.declared.query.LowerFault.{LowerFault}
use Rattle.gv_lower.specs.declared.query.LowerFault.TheVariants.{Flags, Weight, NoMemory}
use Rattle.gv_lower.specs.declared.query.Query.{Query}

pub light_refused : (flags : List (List ℕ)) (w : ℕ) (right : Query → Type 0) (fault : LowerFault) → length flags ≤ 4096 → LightWeight w (Err fault) → Lowered flags w right (Err fault)
light_refused flags w right (Flags count) few h = absurd h
light_refused flags w right (Weight count) few h = (few, h.0, h.1)
light_refused flags w right NoMemory few h = h

pub some_same : {A : Type 0} (a b : A) → Some a ≡ Some b → a ≡ b
some_same a b e = ap (λ o. unwrap_or o a) e
