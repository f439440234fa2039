-- The truth of literals, and of lists of opposites.
use Rattle.std.proofs.Common.{◌≡◌, ℕ, Bool, true, false, not, ◌||◌, ◌&&◌, List, [], ◌∷◌, map, refl}
use Rattle.gv_logic.specs.Literals.{opposite, lit_true, clause_true}
use Rattle.gv_logic.specs.Circuits.{all_lits_true}
use Rattle.gv_logic.specs.Opposites.{lit_opposite}

-- some opposite is true where not all literals are
pub opposites_true : (v : ℕ → Bool) (ls : List ℕ) → clause_true v (map opposite ls) ≡ not (all_lits_true v ls)
opposites_true v [] = refl
opposites_true v (l ∷ ls) = rw (lit_opposite v l, opposites_true v ls) (by (lit_true v l) (all_lits_true v ls))
  where
    by : (a b : Bool) → (not a || not b) ≡ not (a && b)
    by true b = refl
    by false b = refl
