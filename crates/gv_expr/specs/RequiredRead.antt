-- The trees of tokens that have no fault, from the last token to the first: a list for each open group. Where the tokens
-- have a fault, what `req_groups` gives means nothing: it passes over what doesn't fit.
use Rattle.std.specs.Prelude.{ℕ, is_none, if◌then◌else◌, List, [], ◌∷◌, Option, None, Some}
use Rattle.gv_expr.specs.declared.token.Token.{Token}
use Rattle.gv_expr.specs.declared.token.Token.TheVariants as tokens
use Rattle.gv_expr.specs.Required.{Req, Reqs, leaf, all, any, one, most, when, end, more, listed, top}
use Rattle.gv_expr.specs.Token.{is_negated, without_sign, tokens_of}
use Rattle.gv_expr.specs.TokenFaults.{required_use, first_fault}

-- a leaf before the rest of its group
abbrev pub with_leaf : Req → List Reqs → List Reqs
with_leaf flag (rest ∷ outer) = more flag rest ∷ outer
with_leaf flag groups = groups

-- a group that opens here, before the rest of the group that it stands in
abbrev pub with_group : (Reqs → Req) → List Reqs → List Reqs
with_group make (items ∷ rest ∷ outer) = more (make items) rest ∷ outer
with_group make groups = groups

abbrev pub req_groups : List Token → List Reqs
req_groups [] = end ∷ []
req_groups (tokens.Close ∷ ts) = end ∷ req_groups ts
req_groups (tokens.Open ∷ ts) = with_group all (req_groups ts)
req_groups (tokens.Any ∷ tokens.Open ∷ ts) = with_group any (req_groups ts)
req_groups (tokens.One ∷ tokens.Open ∷ ts) = with_group one (req_groups ts)
req_groups (tokens.Most ∷ tokens.Open ∷ ts) = with_group most (req_groups ts)
req_groups (tokens.If flag negated ∷ tokens.Open ∷ ts) = with_group (when flag negated) (req_groups ts)
req_groups (tokens.Word text ∷ ts) = with_leaf (leaf (without_sign text) (is_negated text)) (req_groups ts)
req_groups (t ∷ ts) = req_groups ts

-- None exactly where the bytes are no REQUIRED_USE within the limits
abbrev pub read_required : List ℕ → Option (List Req)
read_required bytes =
    if is_none (first_fault required_use (tokens_of bytes)) then Some (listed (top (req_groups (tokens_of bytes)))) else None
