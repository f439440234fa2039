-- Marks that are set and taken back.
use Rattle.std.proofs.Common.{◌≡◌, ℕ, zero, suc, Bool, true, false, List, [], ◌∷◌, get_or, refl, ap}
use Rattle.std.specs.Prelude.{slice_set}

-- what was marked and is unmarked again
pub set_back : (a : List Bool) (i : ℕ) → get_or a i false ≡ false → slice_set (slice_set a i true) i false ≡ a
set_back [] i e = refl
set_back (x ∷ xs) zero e = cc
set_back (x ∷ xs) (suc i) e = ap (λ t. x ∷ t) (set_back xs i e)

pub no_ : (b : Bool) → b ≡ true → b ≡ false → ⊥
no_ b t f = cc
