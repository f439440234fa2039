-- Cutting a text in two.
use Rattle.std.specs.Prelude.{ℕ, ◌==◌, ◌-◌, Bool, false, if◌then◌else◌, List, [], ◌∷◌, length, take, drop, Option, None, Some}
use Rattle.std.specs.List.{before_first, position_or_len}
use Rattle.std.specs.Str.{bytes_eq}

-- what follows the prefix, where the bytes begin with it
abbrev pub after_prefix : List ℕ → List ℕ → Option (List ℕ)
after_prefix prefix bytes = if bytes_eq (take (length prefix) bytes) prefix then Some (drop (length prefix) bytes) else None

-- the bytes before the first such byte, or all where there is none
abbrev pub up_to_first : ℕ → List ℕ → List ℕ
up_to_first byte bytes = before_first (λ b. b == byte) bytes

-- the bytes from the first such byte on, or none where there is none
abbrev pub from_first : ℕ → List ℕ → List ℕ
from_first byte bytes = drop (position_or_len (λ b. b == byte) bytes) bytes

-- whether the last byte is this one
abbrev pub ends_in : ℕ → List ℕ → Bool
ends_in byte [] = false
ends_in byte (b ∷ []) = b == byte
ends_in byte (b ∷ c ∷ bs) = ends_in byte (c ∷ bs)

-- what stands before the last byte
abbrev pub without_last : List ℕ → List ℕ
without_last bytes = take (length bytes - 1) bytes
