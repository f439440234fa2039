-- The lines, words and tokens of a text.
use Rattle.std.specs.Prelude.{ℕ, Bool, true, false, not, List, [], ◌∷◌, filter}
use Rattle.std.specs.List.{join_with_byte}
use Rattle.gv_base.specs.declared.pieces.Cut.{Cut}
use Rattle.gv_base.specs.declared.pieces.Cut.TheVariants.{Lines, Words, Tokens}
use Rattle.gv_base.specs.Pieces.{pieces}

abbrev pub is_empty : List ℕ → Bool
is_empty [] = true
is_empty (b ∷ bs) = false

-- the pieces that aren't empty
abbrev pub filled : Cut → List ℕ → List (List ℕ)
filled cut bytes = filter (λ piece. not (is_empty piece)) (pieces cut bytes)

-- the words of a line, between spaces, tabs and carriage returns
abbrev pub words_of : List ℕ → List (List ℕ)
words_of line = filled Words line

-- the tokens of a text, which line feeds separate too
abbrev pub tokens_of : List ℕ → List (List ℕ)
tokens_of bytes = filled Tokens bytes

-- the lines between line feeds; what follows the last one is a line too
abbrev pub lines_of : List ℕ → List (List ℕ)
lines_of bytes = pieces Lines bytes

-- the words with one space between
abbrev pub joined : List (List ℕ) → List ℕ
joined words = join_with_byte 32 words
