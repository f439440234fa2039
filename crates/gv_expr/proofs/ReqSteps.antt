-- The tokens and the leaves of a REQUIRED_USE with one more tree.
use Rattle.std.proofs.Common.{◌≡◌, ℕ, Bool, true, false, List, [], ◌∷◌, ◌++◌, refl, ap, append_assoc, ◌∙◌}
use Rattle.std.specs.Prelude.{◌&&◌}
use Rattle.gv_version.specs.Names.{is_flag}
use Rattle.std.proofs.Math.Bool.{and_assoc}
use Rattle.gv_expr.specs.Required.{Req, leaf, all, any, one, most, when, end, more, reqs}
use Rattle.gv_expr.specs.RequiredGrammar.{req_tokens}
use Rattle.gv_expr.specs.Leaves.{are_flags}
use Rattle.gv_expr.specs.declared.token.Token.{Token}
use Rattle.gv_expr.specs.declared.token.Token.TheVariants.{Word}
use Rattle.gv_expr.specs.Token.{signed}

pub req_tokens-append : (a b : List Req) → req_tokens (reqs (a ++ b)) ≡ req_tokens (reqs a) ++ req_tokens (reqs b)
req_tokens-append [] b = refl
req_tokens-append (leaf f n ∷ ts) b = ap (λ r. Word (signed f n) ∷ r) (req_tokens-append ts b)
req_tokens-append (all items ∷ ts) b = let h = req_tokens-append ts b in simp (h, append_assoc)
req_tokens-append (any items ∷ ts) b = let h = req_tokens-append ts b in simp (h, append_assoc)
req_tokens-append (one items ∷ ts) b = let h = req_tokens-append ts b in simp (h, append_assoc)
req_tokens-append (most items ∷ ts) b = let h = req_tokens-append ts b in simp (h, append_assoc)
req_tokens-append (when f n items ∷ ts) b = let h = req_tokens-append ts b in simp (h, append_assoc)

are_flags-append : (a b : List Req) → are_flags (reqs (a ++ b)) ≡ (are_flags (reqs a) && are_flags (reqs b))
are_flags-append [] b = refl
are_flags-append (leaf f n ∷ ts) b = let h = are_flags-append ts b in simp (h, and_assoc)
are_flags-append (all items ∷ ts) b = let h = are_flags-append ts b in simp (h, and_assoc)
are_flags-append (any items ∷ ts) b = let h = are_flags-append ts b in simp (h, and_assoc)
are_flags-append (one items ∷ ts) b = let h = are_flags-append ts b in simp (h, and_assoc)
are_flags-append (most items ∷ ts) b = let h = are_flags-append ts b in simp (h, and_assoc)
are_flags-append (when f n items ∷ ts) b = let h = are_flags-append ts b in simp (h, and_assoc)

and-true : (b : Bool) → (b && true) ≡ b
and-true true = refl
and-true false = refl

-- one more flag
pub leaf_tokens : (before after : List Req) (flag text : List ℕ) (negated : Bool) → after ≡ before ++ leaf flag negated ∷ [] → signed flag negated ≡ text → req_tokens (reqs after) ≡ req_tokens (reqs before) ++ Word text ∷ []
leaf_tokens before after flag text negated e h = ap (λ x. req_tokens (reqs x)) e ∙ req_tokens-append before (leaf flag negated ∷ []) ∙ ap (λ x. req_tokens (reqs before) ++ Word x ∷ []) h

pub leaf_leaves : (before after : List Req) (flag : List ℕ) (negated : Bool) → after ≡ before ++ leaf flag negated ∷ [] → is_flag flag ≡ true → are_flags (reqs after) ≡ are_flags (reqs before)
leaf_leaves before after flag negated e h =
    ap (λ x. are_flags (reqs x)) e ∙ are_flags-append before (leaf flag negated ∷ []) ∙ ap (λ x. are_flags (reqs before) && (x && true)) h ∙ and-true (are_flags (reqs before))

pub group_leaves : (items : List Req) → (are_flags (reqs items) && true) ≡ are_flags (reqs items)
group_leaves items = and-true (are_flags (reqs items))

-- one more tree
pub more_tokens : (before after : List Req) (t : Req) (tokens : List Token) → after ≡ before ++ t ∷ [] → req_tokens (more t end) ≡ tokens → req_tokens (reqs after) ≡ req_tokens (reqs before) ++ tokens
more_tokens before after t tokens e h = ap (λ x. req_tokens (reqs x)) e ∙ req_tokens-append before (t ∷ []) ∙ ap (λ x. req_tokens (reqs before) ++ x) h

pub more_leaves : (before after : List Req) (t : Req) (good : Bool) → after ≡ before ++ t ∷ [] → are_flags (more t end) ≡ good → are_flags (reqs after) ≡ (are_flags (reqs before) && good)
more_leaves before after t good e h = ap (λ x. are_flags (reqs x)) e ∙ are_flags-append before (t ∷ []) ∙ ap (λ x. are_flags (reqs before) && x) h
