-- What private contracts say of the words that were passed, from the last on.
use Rattle.std.specs.Prelude.{◌≡◌, ℕ, Bool, ◌||◌, List}
use Rattle.gv_base.specs.Order.{has_text}
use Rattle.gv_defaults.specs.declared.folding.Behind.{Behind}
use Rattle.gv_defaults.specs.Lasting.{removed_by, lasting}

-- whether one of them removes the text
abbrev pub takes : Behind → List ℕ → Bool
takes behind text = behind.all || has_text behind.removed.keys text

pub record HasPassed (words : List (List ℕ)) (behind : Behind) : Type 0 where
  pub removed : (text : List ℕ) → takes behind text ≡ removed_by words text
  pub kept : behind.kept.items ≡ lasting words
