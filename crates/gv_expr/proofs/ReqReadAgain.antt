-- What is written of a good REQUIRED_USE is read back as it was.
use Rattle.std.proofs.Common.{◌≡◌, ℕ, ◌+◌, Bool, true, List, [], ◌∷◌, ◌++◌, refl, ap, sym, ◌∙◌, append_assoc, append-nil}
use Rattle.gv_version.specs.Names.{is_flag}
use Rattle.gv_expr.specs.declared.token.Token.{Token}
use Rattle.gv_expr.specs.declared.token.Token.TheVariants as tokens
use Rattle.gv_expr.specs.Required.{Req, Reqs, leaf, all, any, one, most, when, end, more, reqs, listed, top}
use Rattle.gv_expr.specs.RequiredStored.{listed-reqs}
use Rattle.gv_expr.specs.RequiredGrammar.{req_tokens, AreReqs}
use Rattle.gv_expr.specs.RequiredRead.{req_groups, with_leaf, with_group}
use Rattle.gv_expr.specs.Token.{signed, is_negated, without_sign}
use Rattle.gv_expr.proofs.Signs.{unsigned, negated_again}

-- the trees and then the rest
abbrev before : Reqs → Reqs → Reqs
before end rest = rest
before (more t ts) rest = more t (before ts rest)

before_end : (ts : Reqs) → before ts end ≡ ts
before_end end = refl
before_end (more t ts) = ap (more t) (before_end ts)

leaf_again : (flag : List ℕ) (negated : Bool) → is_flag flag ≡ true → leaf (without_sign (signed flag negated)) (is_negated (signed flag negated)) ≡ leaf flag negated
leaf_again flag negated good = let u = unsigned flag negated good in let n = negated_again flag negated good in rw (u, n) refl

unfoldable pub IsReadBack : Reqs → Type 0
IsReadBack ts = (k : List Token) (rest : Reqs) (outer : List Reqs) → req_groups k ≡ rest ∷ outer → req_groups (req_tokens ts ++ k) ≡ before ts rest ∷ outer

group_read : (make : Reqs → Req) (items ts : Reqs) → IsReadBack items → IsReadBack ts → (k : List Token) (rest : Reqs) (outer : List Reqs) → req_groups k ≡ rest ∷ outer
    → with_group make (req_groups ((req_tokens items ++ tokens.Close ∷ req_tokens ts) ++ k)) ≡ more (make items) (before ts rest) ∷ outer
unfolding IsReadBack
group_read make items ts of_items of_ts k rest outer e =
    ap (λ x. with_group make (req_groups x)) (append_assoc (req_tokens items) (tokens.Close ∷ req_tokens ts) k)
    ∙ ap (with_group make) (of_items (tokens.Close ∷ (req_tokens ts ++ k)) end (before ts rest ∷ outer) (ap (λ x. end ∷ x) (of_ts k rest outer e)))
    ∙ ap (λ x. more (make x) (before ts rest) ∷ outer) (before_end items)

pub read_back : (depth : ℕ) (ts : Reqs) → AreReqs depth ts → IsReadBack ts
unfolding IsReadBack
read_back depth end good k rest outer e = e
read_back depth (more (leaf flag negated) ts) good k rest outer e =
    ap (λ x. with_leaf (leaf (without_sign (signed flag negated)) (is_negated (signed flag negated))) x) (read_back depth ts good.1 k rest outer e)
    ∙ ap (λ x. more x (before ts rest) ∷ outer) (leaf_again flag negated good.0)
read_back depth (more (all items) ts) good k rest outer e = group_read all items ts (read_back (depth + 1) items good.1) (read_back depth ts good.2) k rest outer e
read_back depth (more (any items) ts) good k rest outer e = group_read any items ts (read_back (depth + 1) items good.1) (read_back depth ts good.2) k rest outer e
read_back depth (more (one items) ts) good k rest outer e = group_read one items ts (read_back (depth + 1) items good.1) (read_back depth ts good.2) k rest outer e
read_back depth (more (most items) ts) good k rest outer e = group_read most items ts (read_back (depth + 1) items good.1) (read_back depth ts good.2) k rest outer e
read_back depth (more (when flag negated items) ts) good k rest outer e =
    group_read (when flag negated) items ts (read_back (depth + 1) items good.2) (read_back depth ts good.3) k rest outer e

-- the trees of the tokens of trees
pub read_again : (ts : List Req) → AreReqs 0 (reqs ts) → listed (top (req_groups (req_tokens (reqs ts)))) ≡ ts
unfolding IsReadBack
read_again ts good =
    ap (λ x. listed (top (req_groups x))) (sym (append-nil (req_tokens (reqs ts))))
    ∙ ap (λ x. listed (top x)) (read_back 0 (reqs ts) good [] end [] refl)
    ∙ ap listed (before_end (reqs ts)) ∙ listed-reqs ts
