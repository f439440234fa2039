-- The length of a file in the script of a session (a format of this project).
use Rattle.std.specs.Prelude.{ℕ, ◌+◌, ◌-◌, ◌*◌, ◌==◌, nat_le, Bool, false, not, ◌&&◌, if◌then◌else◌, List, [], ◌∷◌, Option, Some, None}
use Rattle.std.specs.List.{list_all}

abbrev pub is_digit : ℕ → Bool
is_digit b = nat_le 48 b && nat_le b 57

-- one or more digits, of which the first is no zero but in `0` itself
abbrev pub is_decimal : List ℕ → Bool
is_decimal [] = false
is_decimal (b ∷ []) = is_digit b
is_decimal (b ∷ (c ∷ bytes)) = is_digit b && (not (b == 48) && list_all is_digit (c ∷ bytes))

-- the number whose digits are those of n and then these
abbrev pub digits_behind : ℕ → List ℕ → ℕ
digits_behind n [] = n
digits_behind n (b ∷ bytes) = digits_behind (n * 10 + (b - 48)) bytes

-- the number that a word is, if it is at most 16,777,216
abbrev pub length_of : List ℕ → Option ℕ
length_of word = if is_decimal word && nat_le (digits_behind 0 word) 16777216 then Some (digits_behind 0 word) else None
