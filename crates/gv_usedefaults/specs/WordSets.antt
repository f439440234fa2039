-- For invariants: a set has the words of a list.
use Rattle.std.specs.Prelude.{◌≡◌, ℕ, List}
use Rattle.gv_base.specs.Order.{has_text}

abbrev pub HasWords : (keys words : List (List ℕ)) → Type 0
HasWords keys words = (text : List ℕ) → has_text keys text ≡ has_text words text
