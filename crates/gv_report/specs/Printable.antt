-- Texts of bytes 0x20 to 0x7E alone, and how others are shown where these alone may stand.
use Rattle.std.specs.Prelude.{ℕ, nat_lt, Bool, ◌&&◌, if◌then◌else◌, List, map}
use Rattle.std.specs.List.{list_all}
use Rattle.std.specs.Str.{byte}

abbrev pub is_printable : ℕ → Bool
is_printable b = nat_lt 31 b && nat_lt b 127

abbrev pub is_printable_text : List ℕ → Bool
is_printable_text text = list_all is_printable text

-- any other byte is shown as `?`
abbrev pub shown_byte : ℕ → ℕ
shown_byte b = if is_printable b then b else byte "?"

abbrev pub shown : List ℕ → List ℕ
shown text = map shown_byte text
