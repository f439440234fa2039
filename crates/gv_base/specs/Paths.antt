-- The paths of the outside.
use Rattle.std.specs.Prelude.{ℕ, nat_eq, nat_le, not, Bool, ◌&&◌, ◌||◌, List, [], ◌∷◌}
use Rattle.std.specs.List.{list_all}
use Rattle.std.specs.Str.{bytes_eq}
use Rattle.gv_base.specs.declared.pieces.Cut.TheVariants.{Parts}
use Rattle.gv_base.specs.Pieces.{pieces}
use Rattle.gv_base.specs.Words.{is_empty}

-- bytes 0x21 to 0x7E alone
abbrev pub has_plain_bytes : List ℕ → Bool
has_plain_bytes bytes = list_all (λ b. nat_le 33 b && nat_le b 126) bytes

-- `.` or `..`
abbrev pub is_dots : List ℕ → Bool
is_dots part = bytes_eq part (46 ∷ []) || bytes_eq part (46 ∷ 46 ∷ [])

-- plain bytes alone, and no slash
abbrev pub has_part_bytes : List ℕ → Bool
has_part_bytes bytes = list_all (λ b. nat_le 33 b && (nat_le b 126 && not (nat_eq b 47))) bytes

-- a part isn't empty, has plain bytes without a slash, and is neither `.` nor `..`
abbrev pub is_part : List ℕ → Bool
is_part part = not (is_empty part) && (has_part_bytes part && not (is_dots part))

-- one or more parts joined by slashes
abbrev pub is_path : List ℕ → Bool
is_path path = list_all is_part (pieces Parts path)
