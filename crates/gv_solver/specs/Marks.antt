-- The partial assignment with which the step of a set begins: words of private functions.
use Rattle.std.specs.Prelude.{◌≡◌, ℕ, ◌+◌, ◌*◌, Bool, true, List, [], ◌∷◌, slice_set}
use Rattle.gv_logic.specs.Partial.{is_true}

-- each of the inputs made off in turn
abbrev pub marked : List Bool → List ℕ → List Bool
marked on [] = on
marked on (i ∷ is) = marked (slice_set on (2 * i + 1) true) is

-- each literal that is true in the first is true in the second
pub record Below (a b : List Bool) : Type 0 where
  pub at : (l : ℕ) → is_true a l ≡ true → is_true b l ≡ true
