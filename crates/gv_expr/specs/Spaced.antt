-- Tokens of pieces of a text, and tokens with a space before each, as the program prints them: for the contracts of private functions.
use Rattle.std.specs.Prelude.{ℕ, List, map, not, filter}
use Rattle.gv_base.specs.PrivateWords.{each_behind}
use Rattle.gv_expr.specs.declared.token.Token.{Token}
use Rattle.gv_expr.specs.Token.{token_text, token_of}
use Rattle.gv_base.specs.Words.{is_empty}

-- the tokens of the pieces of a text that aren't empty
abbrev pub tokens_in : List (List ℕ) → List Token
tokens_in pieces = map token_of (filter (λ piece. not (is_empty piece)) pieces)

abbrev pub spaced : List Token → List ℕ
spaced tokens = each_behind 32 (map token_text tokens)
