-- Tokens with a space before each, and joined by one space.
use Rattle.std.proofs.Common.{◌≡◌, ℕ, zero, suc, ◌+◌, ◌<◌, Bool, Some, List, [], ◌∷◌, ◌++◌, get_or, length, drop, drop-cons, add-one, arith, refl, ap, sym, ◌∙◌, append_assoc, append-nil}
use Rattle.std.proofs.lemmas.List.{length-map}
use Rattle.std.specs.Prelude.{IfSome, codes, slice_get}
use Rattle.gv_expr.specs.Dep.{Dep, deps}
use Rattle.gv_expr.specs.DepGrammar.{dep_tokens, item_text}
use Rattle.gv_expr.specs.DepView.{dep_of, view_of}
use Rattle.gv_expr.specs.declared.dep.DepTree.{DepTree}
use Rattle.gv_expr.specs.Required.{Req, reqs}
use Rattle.gv_expr.specs.RequiredGrammar.{req_tokens}
use Rattle.gv_expr.specs.declared.token.Token.{Token}
use Rattle.gv_expr.specs.declared.token.Token.TheVariants.{Open, Close, Any, One, Most, If}
use Rattle.gv_expr.specs.Spaced.{spaced}
use Rattle.gv_expr.specs.Token.{token_text, tokens_text}
use Rattle.gv_expr.proofs.DepSteps.{dep_tokens-append}
use Rattle.gv_expr.proofs.ReqSteps.{req_tokens-append}

spaced-append : (a b : List Token) → spaced (a ++ b) ≡ spaced a ++ spaced b
spaced-append [] b = refl
spaced-append (t ∷ ts) b = ap (λ x. 32 ∷ (token_text t ++ x)) (spaced-append ts b) ∙ ap (λ x. 32 ∷ x) (sym (append_assoc (token_text t) (spaced ts) (spaced b)))

-- the first tree and the others
pub dep_first : (t : Dep) (ts : List Dep) → spaced (dep_tokens (deps (t ∷ ts))) ≡ spaced (dep_tokens (deps (t ∷ []))) ++ spaced (dep_tokens (deps ts))
dep_first t ts = ap spaced (dep_tokens-append (t ∷ []) ts) ∙ spaced-append (dep_tokens (deps (t ∷ []))) (dep_tokens (deps ts))

pub req_first : (t : Req) (ts : List Req) → spaced (req_tokens (reqs (t ∷ ts))) ≡ spaced (req_tokens (reqs (t ∷ []))) ++ spaced (req_tokens (reqs ts))
req_first t ts = ap spaced (req_tokens-append (t ∷ []) ts) ∙ spaced-append (req_tokens (reqs (t ∷ []))) (req_tokens (reqs ts))

-- tokens behind others
behind : (text head whole front : List ℕ) (ts : List Token) → head ≡ text ++ front → whole ≡ head ++ spaced ts → whole ≡ text ++ (front ++ spaced ts)
behind text head whole front ts h w = w ∙ ap (λ x. x ++ spaced ts) h ∙ append_assoc text front (spaced ts)

pub plain_printed : (text head whole : List ℕ) (ts : List Token) → head ≡ text ++ codes " (" → whole ≡ head ++ spaced ts → whole ≡ text ++ spaced (Open ∷ ts)
plain_printed text head whole ts h w = behind text head whole (codes " (") ts h w

pub any_printed : (text head whole : List ℕ) (ts : List Token) → head ≡ text ++ codes " || (" → whole ≡ head ++ spaced ts → whole ≡ text ++ spaced (Any ∷ Open ∷ ts)
any_printed text head whole ts h w = behind text head whole (codes " || (") ts h w

pub one_printed : (text head whole : List ℕ) (ts : List Token) → head ≡ text ++ codes " ^^ (" → whole ≡ head ++ spaced ts → whole ≡ text ++ spaced (One ∷ Open ∷ ts)
one_printed text head whole ts h w = behind text head whole (codes " ^^ (") ts h w

pub most_printed : (text head whole : List ℕ) (ts : List Token) → head ≡ text ++ codes " ?? (" → whole ≡ head ++ spaced ts → whole ≡ text ++ spaced (Most ∷ Open ∷ ts)
most_printed text head whole ts h w = behind text head whole (codes " ?? (") ts h w

pub if_printed : (text head whole : List ℕ) (flag : List ℕ) (negated : Bool) (ts : List Token) → head ≡ text ++ spaced (If flag negated ∷ Open ∷ []) → whole ≡ head ++ spaced ts
    → whole ≡ text ++ spaced (If flag negated ∷ Open ∷ ts)
if_printed text head whole flag negated ts h w =
    behind text head whole (spaced (If flag negated ∷ Open ∷ [])) ts h w ∙ ap (λ x. text ++ x) (sym (spaced-append (If flag negated ∷ Open ∷ []) ts))

-- the end of a group
pub closed : (text inside whole : List ℕ) (ts : List Token) → inside ≡ text ++ spaced ts → whole ≡ inside ++ codes " )" → whole ≡ text ++ spaced (ts ++ Close ∷ [])
closed text inside whole ts i w =
    w ∙ ap (λ x. x ++ codes " )") i ∙ append_assoc text (spaced ts) (codes " )") ∙ ap (λ x. text ++ x) (sym (spaced-append ts (Close ∷ [])))

pub unspaced : (ts : List Token) → drop 1 (spaced ts) ≡ tokens_text ts
unspaced [] = refl
unspaced (t ∷ []) = append-nil (token_text t)
unspaced (t ∷ u ∷ ts) = ap (λ x. token_text t ++ 32 ∷ x) (unspaced (u ∷ ts))

-- one more tree is printed, where `all` has the text of trees and `one` that of a tree
pub step_printed : {T : Type 0} (one : T → List ℕ) (all : List T → List ℕ) → ((t : T) (ts : List T) → all (t ∷ ts) ≡ one t ++ all ts)
    → (ts : List T) (i : ℕ) (t : T) (text after whole : List ℕ) → i < length ts → t ≡ get_or ts i t → text ++ all (drop i ts) ≡ whole → after ≡ text ++ one t
    → after ++ all (drop (i + 1) ts) ≡ whole
step_printed one all first ts i t text after whole lt here before e =
    let rest : drop i ts ≡ t ∷ drop (i + 1) ts = rw add-one (drop-cons ts i t lt) ∙ ap (λ x. x ∷ drop (i + 1) ts) (sym here) in
    ap (λ x. x ++ all (drop (i + 1) ts)) e
    ∙ append_assoc text (one t) (all (drop (i + 1) ts))
    ∙ ap (λ x. text ++ x) (sym (first t (drop (i + 1) ts)))
    ∙ ap (λ x. text ++ all x) (sym rest)
    ∙ before

item_at : (ts : List DepTree) (n : ℕ) (t d : DepTree) → n < length ts → t ≡ get_or ts n d → slice_get (view_of ts) n ≡ Some (dep_of t)
item_at [] n t d lt e = absurd (omega arith)
item_at (x ∷ xs) zero t d lt e = ap (λ y. Some (dep_of y)) (sym e)
item_at (x ∷ xs) (suc n) t d lt e = item_at xs n t d (omega arith) e

-- a top item, without the space before it
pub item_printed : (ts : List DepTree) (items : List Dep) (n : ℕ) (t : DepTree) (before text cut : List ℕ) → view_of ts ≡ items → n < length items → t ≡ get_or ts n t
    → before ≡ [] → text ≡ before ++ spaced (dep_tokens (deps (dep_of t ∷ []))) → cut ≡ drop 1 text → IfSome (slice_get items n) (λ item. cut ≡ item_text item)
item_printed ts items n t before text cut seen lt here none e k =
    let few : n < length ts = omega (arith, ap length seen, length-map ts dep_of) in
    let at : slice_get items n ≡ Some (dep_of t) = ap (λ x. slice_get x n) (sym seen) ∙ item_at ts n t t few here in
    let done : cut ≡ item_text (dep_of t) = k ∙ ap (λ x. drop 1 x) (e ∙ ap (λ x. x ++ spaced (dep_tokens (deps (dep_of t ∷ [])))) none) ∙ unspaced (dep_tokens (deps (dep_of t ∷ []))) in
    rw at done
