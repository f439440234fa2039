-- The EAPI of a profile directory.
use Rattle.std.specs.Prelude.{ℕ, nat_le, ◌-◌, ◌&&◌, Bool, false, if◌then◌else◌, List, [], ◌∷◌, Option, Some, None, flat_map}
use Rattle.std.specs.Option.{unwrap_or, option_map_or, is_none}
use Rattle.std.specs.Str.{byte}
use Rattle.gv_profile.specs.declared.files.DirFiles.{DirFiles}
use Rattle.gv_profile.specs.Lines.{line_words, file_lines}

-- one of `0` to `8`
abbrev pub digit_of : List ℕ → Option ℕ
digit_of [] = None
digit_of (b ∷ []) = if nat_le (byte "0") b && nat_le b (byte "8") then Some (b - byte "0") else None
digit_of (b ∷ c ∷ bs) = None

-- the first word decides; a file without a word counts as `0`
abbrev pub first_digit : List (List ℕ) → Option ℕ
first_digit [] = Some 0
first_digit (word ∷ words) = digit_of word

-- none where the first word is no EAPI
abbrev pub eapi_in : List ℕ → Option ℕ
eapi_in bytes = first_digit (flat_map line_words (file_lines bytes))

-- an absent file counts as `0`
abbrev pub eapi_of : DirFiles → Option ℕ
eapi_of files = eapi_in (unwrap_or files.eapi [])

abbrev pub has_bad_eapi : DirFiles → Bool
has_bad_eapi files = is_none (eapi_of files)

-- stable files count from EAPI 5 on
abbrev pub has_stable : DirFiles → Bool
has_stable files = option_map_or (nat_le 5) (eapi_of files) false
