-- Digests, as 32 hexadecimal digits of either case, and the list of eclasses (PMS chapter 14, md5-dict).
use Rattle.std.specs.Prelude.{ℕ, ◌+◌, ◌*◌, ◌-◌, ◌==◌, nat_le, ◌&&◌, if◌then◌else◌, List, [], ◌∷◌, length, Option, None, Some}
use Rattle.std.specs.List.{slice_split}
use Rattle.gv_base.specs.Paths.{is_part}
use Rattle.gv_base.specs.Words.{is_empty}
use Rattle.gv_version.specs.Bytes.{is_digit}
use Rattle.gv_entry.specs.declared.entry.Eclass.{Eclass}

abbrev pub hex_digit : ℕ → Option ℕ
hex_digit b =
    if is_digit b then Some (b - 48) else
    if nat_le 97 b && nat_le b 102 then Some (b - 87) else
    if nat_le 65 b && nat_le b 70 then Some (b - 55) else None

abbrev pub with_byte : Option ℕ → Option ℕ → Option (List ℕ) → Option (List ℕ)
with_byte (Some high) (Some low) (Some rest) = Some ((16 * high + low) ∷ rest)
with_byte high low rest = None

abbrev pub hex_bytes : List ℕ → Option (List ℕ)
hex_bytes [] = Some []
hex_bytes (h ∷ []) = None
hex_bytes (h ∷ l ∷ hs) = with_byte (hex_digit h) (hex_digit l) (hex_bytes hs)

abbrev pub digest_in : List ℕ → Option (List ℕ)
digest_in text = if length text == 32 then hex_bytes text else None

-- a name is one part of a path
abbrev pub with_eclass : List ℕ → Option (List ℕ) → Option (List Eclass) → Option (List Eclass)
with_eclass name (Some digest) (Some rest) = if is_part name then Some (record { name = name; digest = digest } ∷ rest) else None
with_eclass name digest rest = None

abbrev pub eclasses_in : List (List ℕ) → Option (List Eclass)
eclasses_in [] = Some []
eclasses_in (name ∷ []) = None
eclasses_in (name ∷ digest ∷ rest) = with_eclass name (digest_in digest) (eclasses_in rest)

-- the texts between the tabs
abbrev pub between_tabs : List ℕ → List (List ℕ)
between_tabs value = slice_split (λ b. b == 9) value

-- name, digest, name, digest, separated by tabs
abbrev pub eclasses_of : List ℕ → Option (List Eclass)
eclasses_of value = if is_empty value then Some [] else eclasses_in (between_tabs value)
