-- The tokens of an expression (PMS chapter 8): its words, sorted.
use Rattle.std.specs.Prelude.{ℕ, ◌==◌, nat_eq, Bool, true, false, if◌then◌else◌, List, ◌∷◌, ◌++◌, drop, map, codes}
use Rattle.std.specs.List.{ends_with}
use Rattle.std.specs.Str.{bytes_eq, byte}
use Rattle.gv_base.specs.Cut.{without_last}
use Rattle.gv_base.specs.Words as words
use Rattle.gv_base.specs.Words.{joined}
use Rattle.gv_version.specs.Bytes.{begins_with}
use Rattle.gv_expr.specs.declared.token.Token.{Token}
use Rattle.gv_expr.specs.declared.token.Token.TheVariants.{Open, Close, Any, One, Most, If, Word}

-- whether the last byte is the mark of a conditional
abbrev pub is_conditional : List ℕ → Bool
is_conditional word = ends_with nat_eq word (codes "?")

abbrev pub is_negated : List ℕ → Bool
is_negated text = begins_with (λ b. b == byte "!") text

abbrev pub without_sign : List ℕ → List ℕ
without_sign text = if is_negated text then drop 1 text else text

abbrev pub token_of : List ℕ → Token
token_of word =
    if bytes_eq word (codes "(") then Open else
    if bytes_eq word (codes ")") then Close else
    if bytes_eq word (codes "||") then Any else
    if bytes_eq word (codes "^^") then One else
    if bytes_eq word (codes "??") then Most else
    if is_conditional word then If (without_sign (without_last word)) (is_negated (without_last word)) else Word word

abbrev pub signed : List ℕ → Bool → List ℕ
signed flag false = flag
signed flag true = byte "!" ∷ flag

abbrev pub token_text : Token → List ℕ
token_text Open = codes "("
token_text Close = codes ")"
token_text Any = codes "||"
token_text One = codes "^^"
token_text Most = codes "??"
token_text (If flag negated) = signed flag negated ++ codes "?"
token_text (Word text) = text

abbrev pub tokens_of : List ℕ → List Token
tokens_of bytes = map token_of (words.tokens_of bytes)

-- the tokens with one space between
abbrev pub tokens_text : List Token → List ℕ
tokens_text tokens = joined (map token_text tokens)
