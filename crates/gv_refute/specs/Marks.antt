-- Notes of the literals that are marked: a word of the marks' own invariant.
use Rattle.std.specs.Prelude.{◌≡◌, ℕ, Bool, true, List, length}
use Rattle.gv_logic.specs.Partial.{is_true, trues, Has}

-- each mark is noted, and there are as many notes as marks
pub record IsNoted (on : List Bool) (noted : List ℕ) : Type 0 where
  pub all : (lit : ℕ) → is_true on lit ≡ true → Has lit noted
  pub once : length noted ≡ trues on
