-- The lines of the script of a session (a format of this project), and the words of a line.
use Rattle.std.specs.Prelude.{ℕ, ◌+◌, ◌==◌, nat_le, List, ◌&&◌, if◌then◌else◌, length, drop, Option, Some, None}
use Rattle.std.specs.List.{list_any, slice_split}
use Rattle.gv_base.specs.Cut.{up_to_first}

-- the bytes before the first line feed, and those behind it: none where no line feed is there, or more than 4,200 bytes
-- stand before it
abbrev pub first_line : List ℕ → Option (List ℕ × List ℕ)
first_line bytes =
    if list_any (λ b. b == 10) bytes && nat_le (length (up_to_first 10 bytes)) 4200
    then Some (up_to_first 10 bytes, drop (length (up_to_first 10 bytes) + 1) bytes) else None

-- the words of a line, with one space between each two: one more than there are spaces
abbrev pub words_of_line : List ℕ → List (List ℕ)
words_of_line line = slice_split (λ b. b == 32) line
