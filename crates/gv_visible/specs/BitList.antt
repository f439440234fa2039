-- For the view of bits: what is kept in words of 64.
use Rattle.std.specs.Prelude.{ℕ, zero, suc, ◌/◌, ◌%◌, Bool, nat_eq, List, [], ◌∷◌, ◌++◌, slice_index}
use Rattle.std.specs.Int.{bit_at}

-- the bit at a place is on
abbrev pub is_on : List ℕ → ℕ → Bool
is_on words place = nat_eq (bit_at (slice_index words (place / 64)) (place % 64)) 1

-- the first n bits
abbrev pub bits_of : List ℕ → ℕ → List Bool
bits_of words zero = []
bits_of words (suc n) = bits_of words n ++ is_on words n ∷ []
