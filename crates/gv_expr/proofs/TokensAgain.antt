-- The tokens of a text, joined by one space, are the tokens of that text.
use Rattle.std.proofs.Common.{◌≡◌, ℕ, ◌-◌, Bool, true, false, List, [], ◌∷◌, ◌++◌, length, drop, refl, ap, sym, ◌∙◌}
use Rattle.std.specs.Prelude.{if◌then◌else◌, codes, map}
use Rattle.std.specs.Str.{bytes_eq}
use Rattle.std.proofs.lemmas.List.{take-append-drop}
use Rattle.std.proofs.lemmas.Slice.Eq.{bytes_eq-Decides}
use Rattle.gv_base.specs.Cut.{without_last}
use Rattle.gv_base.specs.Pieces.{separates}
use Rattle.gv_base.specs.declared.pieces.Cut.TheVariants as cuts
use Rattle.gv_base.specs.Words as words
use Rattle.gv_base.specs.Words.{joined}
use Rattle.gv_expr.specs.declared.token.Token.{Token}
use Rattle.gv_expr.specs.declared.token.Token.TheVariants as tokens
use Rattle.gv_expr.specs.Dep.{Dep, deps}
use Rattle.gv_expr.specs.DepGrammar.{dep_text, IsDepOf}
use Rattle.gv_expr.specs.Required.{Req, reqs}
use Rattle.gv_expr.specs.RequiredGrammar.{req_text, IsReqOf}
use Rattle.gv_expr.specs.Token.{is_conditional, is_negated, without_sign, token_of, token_text, tokens_of, tokens_text}
use Rattle.gv_expr.proofs.Signs.{signed_again}
use Rattle.gv_expr.proofs.WordsAgain.{words_again}

same_bytes : (a b : List ℕ) → bytes_eq a b ≡ true → a ≡ b
same_bytes a b e = (bytes_eq-Decides a b).0 e

-- the token is the one of this text, or another
token_if : (word text : List ℕ) (here other : Token) (b : Bool) → bytes_eq word text ≡ b → token_text here ≡ text → token_text other ≡ word → token_text (if b then here else other) ≡ word
token_if word text here other true e h o = h ∙ sym (same_bytes word text e)
token_if word text here other false e h o = o

conditional_if : (word : List ℕ) (b : Bool) → is_conditional word ≡ b
    → token_text (if b then tokens.If (without_sign (without_last word)) (is_negated (without_last word)) else tokens.Word word) ≡ word
conditional_if word true e =
    ap (λ x. x ++ codes "?") (signed_again (without_last word))
    ∙ ap (λ x. without_last word ++ x) (same_bytes (codes "?") (drop (length word - 1) word) e)
    ∙ take-append-drop (length word - 1) word
conditional_if word false e = refl

pub text_again : (word : List ℕ) → token_text (token_of word) ≡ word
text_again word =
    token_if word (codes "(") tokens.Open _ (bytes_eq word (codes "(")) refl refl
    (token_if word (codes ")") tokens.Close _ (bytes_eq word (codes ")")) refl refl
    (token_if word (codes "||") tokens.Any _ (bytes_eq word (codes "||")) refl refl
    (token_if word (codes "^^") tokens.One _ (bytes_eq word (codes "^^")) refl refl
    (token_if word (codes "??") tokens.Most _ (bytes_eq word (codes "??")) refl refl
    (conditional_if word (is_conditional word) refl)))))

texts_again : (ws : List (List ℕ)) → map token_text (map token_of ws) ≡ ws
texts_again [] = refl
texts_again (w ∷ ws) = ap (λ x. x ∷ map token_text (map token_of ws)) (text_again w) ∙ ap (λ x. w ∷ x) (texts_again ws)

pub tokens_again : (bytes : List ℕ) → tokens_of (tokens_text (tokens_of bytes)) ≡ tokens_of bytes
tokens_again bytes =
    ap (λ ws. tokens_of (joined ws)) (texts_again (words.tokens_of bytes))
    ∙ ap (map token_of) (words_again (separates cuts.Tokens) refl bytes)

-- what is printed of an expression that was read is that expression
pub dep_again : (ts : List Dep) (text : List ℕ) → text ≡ dep_text (deps ts) → (bytes : List ℕ) → IsDepOf bytes ts → IsDepOf text ts
dep_again ts text printed bytes is = record {
  good = is.good;
  few = is.few;
  written = is.written ∙ sym (tokens_again bytes) ∙ ap (λ x. tokens_of (tokens_text x)) (sym is.written) ∙ ap tokens_of (sym printed);
}

pub req_again : (ts : List Req) (text : List ℕ) → text ≡ req_text (reqs ts) → (bytes : List ℕ) → IsReqOf bytes ts → IsReqOf text ts
req_again ts text printed bytes is = record {
  good = is.good;
  few = is.few;
  written = is.written ∙ sym (tokens_again bytes) ∙ ap (λ x. tokens_of (tokens_text x)) (sym is.written) ∙ ap tokens_of (sym printed);
}
