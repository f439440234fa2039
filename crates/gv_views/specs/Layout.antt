-- The masters that the layout of a repository names (a format of this project after Gentoo's `metadata/layout.conf`).
use Rattle.std.specs.Prelude.{◌≡◌, ℕ, ◌+◌, nat_lt, Bool, true, false, not, ◌&&◌, if◌then◌else◌, List, [], ◌∷◌, length, drop, codes, Option, None, Some, Result, Ok, Err}
use Rattle.std.specs.List.{find, list_all}
use Rattle.std.specs.Str.{bytes_eq}
use Rattle.gv_base.specs.Cut.{up_to_first}
use Rattle.gv_base.specs.Order.{has_text}
use Rattle.gv_base.specs.Paths.{is_part}
use Rattle.gv_base.specs.Words.{is_empty, lines_of, words_of}
use Rattle.gv_profile.specs.Lines.{line_words}
use Rattle.gv_views.specs.declared.layout.LayoutFault.{LayoutFault}
use Rattle.gv_views.specs.declared.layout.LayoutFault.TheVariants.{Bad, NoMemory, TooMany}

-- what stands before the first `=`, which is shorter than the line where there is one; and what stands behind it
abbrev pub key_of : List ℕ → List ℕ
key_of line = up_to_first 61 line

abbrev pub has_equals : List ℕ → Bool
has_equals line = nat_lt (length (key_of line)) (length line)

abbrev pub behind_equals : List ℕ → List ℕ
behind_equals line = drop (length (key_of line) + 1) line

-- the one word `masters`, with or without blanks around it
abbrev pub is_masters_word : List (List ℕ) → Bool
is_masters_word [] = false
is_masters_word (word ∷ []) = bytes_eq word (codes "masters")
is_masters_word (word ∷ (other ∷ words)) = false

abbrev pub is_masters_line : List ℕ → Bool
is_masters_line line = has_equals line && is_masters_word (words_of (key_of line))

-- none of the texts stands twice
abbrev pub are_distinct : List (List ℕ) → Bool
are_distinct [] = true
are_distinct (text ∷ texts) = not (has_text texts text) && are_distinct texts

-- at least one, each one part of a path, none twice, and not the repository itself
abbrev pub has_none : List (List ℕ) → Bool
has_none [] = true
has_none (text ∷ texts) = false

abbrev pub are_masters : (name : List ℕ) → List (List ℕ) → Bool
are_masters name masters = not (has_none masters) && (list_all is_part masters && (are_distinct masters && not (has_text masters name)))

-- at most eight
abbrev pub checked : (name : List ℕ) → List (List ℕ) → Result (List (List ℕ)) LayoutFault
checked name masters = if nat_lt 8 (length masters) then Err TooMany else (if are_masters name masters then Ok masters else Err Bad)

-- the words of the first such line, up to a comment
abbrev pub masters_of : (name : List ℕ) → Option (List ℕ) → Result (List (List ℕ)) LayoutFault
masters_of name None = Err Bad
masters_of name (Some line) = checked name (line_words (behind_equals line))

abbrev pub masters_in : (name bytes : List ℕ) → Result (List (List ℕ)) LayoutFault
masters_in name bytes = masters_of name (find is_masters_line (lines_of bytes))

-- the answer is that, or memory was wanted
abbrev pub Tells : Result (List (List ℕ)) LayoutFault → Result (List (List ℕ)) LayoutFault → Type 0
Tells defined (Ok masters) = defined ≡ Ok masters
Tells defined (Err NoMemory) = Unit {0}
Tells defined (Err TooMany) = defined ≡ Err TooMany
Tells defined (Err Bad) = defined ≡ Err Bad
