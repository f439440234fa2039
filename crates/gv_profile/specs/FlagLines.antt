-- The lines of files of flags (PMS chapter 5): which are good, and what is bad about the others.
use Rattle.std.specs.Prelude.{ℕ, ◌==◌, Bool, true, false, if◌then◌else◌, List, [], ◌∷◌, Option, Some, None, drop}
use Rattle.std.specs.List.{list_all}
use Rattle.std.specs.Str.{byte}
use Rattle.gv_atom.specs.declared.atom.Atom.{Atom}
use Rattle.gv_version.specs.Names.{is_flag}
use Rattle.gv_profile.specs.MaskLines.{file_atom}
use Rattle.gv_profile.specs.declared.flag_lines.FlagLine.{FlagLine}
use Rattle.gv_profile.specs.declared.flag_lines.FlagLine.TheVariants as kinds
use Rattle.gv_profile.specs.declared.notes.Bad.{Bad}
use Rattle.gv_profile.specs.declared.notes.Bad.TheVariants.{Flag, AtomText}

-- a word is a flag, or a hyphen and a flag, which ends the effect
abbrev pub is_off : List ℕ → Bool
is_off [] = false
is_off (b ∷ bs) = b == byte "-"

abbrev pub flag_of : List ℕ → List ℕ
flag_of [] = []
flag_of (b ∷ bs) = if b == byte "-" then bs else b ∷ bs

abbrev pub is_flag_word : List ℕ → Bool
is_flag_word word = is_flag (flag_of word)

-- one or more of them
abbrev pub are_flag_words : List (List ℕ) → Bool
are_flag_words [] = false
are_flag_words (word ∷ words) = list_all is_flag_word (word ∷ words)

-- a good line of `use.mask` and its like has one such word
abbrev pub plain_line : List (List ℕ) → FlagLine
plain_line [] = kinds.Blank
plain_line (word ∷ []) = if is_flag_word word then kinds.Good None else kinds.Bad Flag
plain_line (word ∷ next ∷ words) = kinds.Bad Flag

abbrev pub atom_line : Option Atom → List (List ℕ) → FlagLine
atom_line None words = kinds.Bad AtomText
atom_line (Some atom) words = if are_flag_words words then kinds.Good (Some atom) else kinds.Bad Flag

-- one of `package.use.mask` and its like has an atom, then flags
abbrev pub package_line : List (List ℕ) → FlagLine
package_line [] = kinds.Blank
package_line (text ∷ words) = atom_line (file_atom text) words

abbrev pub flag_line : (by_package : Bool) → List (List ℕ) → FlagLine
flag_line by_package words = if by_package then package_line words else plain_line words

-- the words of a good line that are its flags
abbrev pub flag_words : (by_package : Bool) → List (List ℕ) → List (List ℕ)
flag_words by_package words = if by_package then drop 1 words else words

abbrev pub bad_in : FlagLine → Option Bad
bad_in kinds.Blank = None
bad_in (kinds.Good atom) = None
bad_in (kinds.Bad bad) = Some bad
