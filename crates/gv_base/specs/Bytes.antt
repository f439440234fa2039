-- That a text, seen as a list of numbers, is bytes.
use Rattle.std.specs.Prelude.{ℕ, nat_lt, Bool, List}
use Rattle.std.specs.List.{list_all}

abbrev pub is_byte : ℕ → Bool
is_byte b = nat_lt b 256

abbrev pub are_bytes : List ℕ → Bool
are_bytes bytes = list_all is_byte bytes

abbrev pub are_texts : List (List ℕ) → Bool
are_texts texts = list_all are_bytes texts
