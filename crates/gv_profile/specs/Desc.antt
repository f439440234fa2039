-- The lines of `profiles/profiles.desc` (PMS chapter 4: arch, path under `profiles`, status).
use Rattle.std.specs.Prelude.{ℕ, map, ◌&&◌, Bool, false, if◌then◌else◌, List, [], ◌∷◌, ◌++◌, Option, Some, None, option_map, fold, codes}
use Rattle.std.specs.List.{list_any}
use Rattle.std.specs.Str.{bytes_eq}
use Rattle.gv_version.specs.Names.{is_keyword}
use Rattle.gv_facts.specs.declared.kinds.Status.{Status}
use Rattle.gv_facts.specs.declared.kinds.Status.TheVariants.{Stable, Dev, Exp}
use Rattle.gv_profile.specs.declared.desc.DescLine.{DescLine}
use Rattle.gv_profile.specs.declared.desc.DescRead.{DescRead}
use Rattle.gv_profile.specs.declared.notes.Bad.TheVariants.{Line}
use Rattle.gv_profile.specs.Lines.{line_words, numbered_lines}
use Rattle.gv_profile.specs.Names.{desc_path}
use Rattle.gv_profile.specs.Notes.{note}
use Rattle.gv_profile.specs.Paths.{is_relative}

abbrev pub status_word : List ℕ → Option Status
status_word word =
    if bytes_eq word (codes "stable") then Some Stable
    else (if bytes_eq word (codes "dev") then Some Dev
    else (if bytes_eq word (codes "exp") then Some Exp else None))

-- what tells a line from others: its arch and its path. Words have no blank, so that equal keys are equal words
abbrev pub key_of : List ℕ → List ℕ → List ℕ
key_of arch path = arch ++ (codes " " ++ path)

abbrev pub line_key : DescLine → List ℕ
line_key line = key_of line.arch line.path

-- whether a line before that counts has these first two words
abbrev pub repeats : List DescLine → List (List ℕ) → Bool
repeats lines [] = false
repeats lines (arch ∷ []) = false
repeats lines (arch ∷ path ∷ words) = list_any (bytes_eq (key_of arch path)) (map line_key lines)

abbrev pub described : ℕ → List ℕ → List ℕ → Status → DescLine
described number arch path status = record { number = number; arch = arch; path = path; status = status }

-- a good line has the name of a keyword, a relative path and a status; further words are ignored
abbrev pub good_line : ℕ → List (List ℕ) → Option DescLine
good_line number [] = None
good_line number (arch ∷ []) = None
good_line number (arch ∷ path ∷ []) = None
good_line number (arch ∷ path ∷ status ∷ words) =
    if is_keyword arch && is_relative path then option_map (described number arch path) (status_word status) else None

-- the lines that count and the notes of bad ones, with one line more: a line without a word is passed over
abbrev pub with_told : DescRead → ℕ → List (List ℕ) → Option DescLine → DescRead
with_told read number words (Some line) = record { lines = read.lines ++ line ∷ []; notes = read.notes }
with_told read number [] None = read
with_told read number (word ∷ words) None = record { lines = read.lines; notes = read.notes ++ note desc_path number Line ∷ [] }

-- a line whose first two words stand in an earlier good one doesn't count and isn't bad
abbrev pub with_line : DescRead → ℕ → List (List ℕ) → DescRead
with_line read number words = if repeats read.lines words then read else with_told read number words (good_line number words)

abbrev pub read_after : DescRead → List (ℕ × List ℕ) → DescRead
read_after read rest = fold (λ r l. with_line r l.0 (line_words l.1)) read rest

abbrev pub desc_read : List ℕ → DescRead
desc_read bytes = read_after (record { lines = []; notes = [] }) (numbered_lines bytes)
