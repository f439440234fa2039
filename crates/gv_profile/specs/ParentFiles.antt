-- The parents of a profile directory (PMS chapter 5).
use Rattle.std.specs.Prelude.{ℕ, List, [], ◌∷◌, Option, Some, None, if◌then◌else◌, filter_map}
use Rattle.std.specs.Option.{unwrap_or}
use Rattle.gv_profile.specs.declared.files.DirFiles.{DirFiles}
use Rattle.gv_profile.specs.declared.parent_files.ParentLine.{ParentLine}
use Rattle.gv_profile.specs.Lines.{line_words, numbered_lines}
use Rattle.gv_profile.specs.ParentWords.{is_parent}
use Rattle.gv_profile.specs.Paths.{resolved}

-- a good line has one word; the path is none where it leaves the root or is the root
abbrev pub parent_in : List ℕ → ℕ → List (List ℕ) → Option ParentLine
parent_in dir line [] = None
parent_in dir line (word ∷ []) = if is_parent word then Some (record { path = resolved dir word; line = line }) else None
parent_in dir line (word ∷ next ∷ words) = None

abbrev pub parents_among : List ℕ → List (ℕ × List ℕ) → List ParentLine
parents_among dir lines = filter_map (λ l. parent_in dir l.0 (line_words l.1)) lines

abbrev pub parent_lines : List ℕ → List ℕ → List ParentLine
parent_lines dir bytes = parents_among dir (numbered_lines bytes)

-- those of a directory; none without the file
abbrev pub parents_of : List ℕ → DirFiles → List ParentLine
parents_of dir files = parent_lines dir (unwrap_or files.parent [])
