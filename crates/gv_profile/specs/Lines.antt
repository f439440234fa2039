-- The lines of a file under `profiles` and their words.
use Rattle.std.specs.Prelude.{ℕ, ◌==◌, if◌then◌else◌, List, [], ◌∷◌}
use Rattle.std.specs.List.{enumerate_from}
use Rattle.std.specs.Str.{byte}
use Rattle.gv_base.specs.declared.pieces.Cut.TheVariants.{Lines, Words}
use Rattle.gv_base.specs.Pieces.{pieces}

-- the pieces that aren't empty, before the first that begins with `#`
abbrev pub before_comment : List (List ℕ) → List (List ℕ)
before_comment [] = []
before_comment ([] ∷ words) = before_comment words
before_comment ((b ∷ bs) ∷ words) = if b == byte "#" then [] else (b ∷ bs) ∷ before_comment words

-- the words of a line: what stands between spaces, tabs and carriage returns, up to a comment
abbrev pub line_words : List ℕ → List (List ℕ)
line_words line = before_comment (pieces Words line)

abbrev pub file_lines : List ℕ → List (List ℕ)
file_lines bytes = pieces Lines bytes

-- the lines of a file, numbered from 1
abbrev pub numbered_lines : List ℕ → List (ℕ × List ℕ)
numbered_lines bytes = enumerate_from 1 (file_lines bytes)
