-- What private contracts say of words with a set beside them.
use Rattle.std.specs.Prelude.{◌≡◌, ℕ, List}
use Rattle.gv_base.specs.Order.{has_text}
use Rattle.gv_defaults.specs.declared.folding.Indexed.{Indexed}

-- the set has the words
abbrev pub IsIndexed : Indexed → Type 0
IsIndexed indexed = (text : List ℕ) → has_text indexed.set.keys text ≡ has_text indexed.words text
