-- Words, tokens, pieces, paths and next parts, by their computed values.
use Rattle.std.specs.Prelude.{◌≡◌, [], ◌∷◌, true, false, Some, None, codes, refl}
use Rattle.gv_base.specs.declared.pieces.Cut.TheVariants.{Parts}
use Rattle.gv_base.specs.Pieces.{pieces}
use Rattle.gv_base.specs.Words.{words_of, tokens_of, lines_of, joined}
use Rattle.gv_base.specs.Paths.{is_path}
use Rattle.gv_base.specs.Listing.{next_part}

-- a line feed separates tokens, and is a byte of a word
words : words_of (codes " a\tb#c  #d\n") ≡ codes "a" ∷ codes "b#c" ∷ codes "#d\n" ∷ []
words = refl

tokens : tokens_of (codes "|| ( a\n b )\n") ≡ codes "||" ∷ codes "(" ∷ codes "a" ∷ codes "b" ∷ codes ")" ∷ []
tokens = refl

-- what follows the last line feed is a line, and so is nothing
lines : lines_of (codes "a\n\nb\n") ≡ codes "a" ∷ [] ∷ codes "b" ∷ [] ∷ []
lines = refl

parts : pieces Parts (codes "/a//b") ≡ [] ∷ codes "a" ∷ [] ∷ codes "b" ∷ []
parts = refl

spaced : joined (codes "a" ∷ codes "-b" ∷ codes "c" ∷ []) ≡ codes "a -b c"
spaced = refl

path : is_path (codes "profiles/base/use.mask") ≡ true
path = refl

up : is_path (codes "a/../b") ≡ false
up = refl

first : next_part (codes "a") (codes "a/b-1/c") ≡ Some (codes "b-1")
first = refl

-- a path with the other as its front is beside it and not below it
beside : next_part (codes "a/b") (codes "a/b-1/c") ≡ None
beside = refl
