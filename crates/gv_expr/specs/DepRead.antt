-- The trees of tokens that have no fault, from the last token to the first: a list for each open group. Where the tokens
-- have a fault, what `dep_groups` gives means nothing: it passes over what doesn't fit.
use Rattle.std.specs.Prelude.{ℕ, is_none, if◌then◌else◌, List, [], ◌∷◌, Option, None, Some}
use Rattle.gv_atom.specs.declared.atom.Atom.{Atom}
use Rattle.gv_atom.specs.Reading.{read_atom}
use Rattle.gv_expr.specs.declared.token.Token.{Token}
use Rattle.gv_expr.specs.declared.token.Token.TheVariants as tokens
use Rattle.gv_expr.specs.Dep.{Dep, Deps, leaf, all, any, when, end, more, listed, top}
use Rattle.gv_expr.specs.Token.{tokens_of}
use Rattle.gv_expr.specs.TokenFaults.{dependency, first_fault}

-- a leaf before the rest of its group
abbrev pub with_leaf : Option Atom → List Deps → List Deps
with_leaf (Some atom) (rest ∷ outer) = more (leaf atom) rest ∷ outer
with_leaf atom groups = groups

-- a group that opens here, before the rest of the group that it stands in
abbrev pub with_group : (Deps → Dep) → List Deps → List Deps
with_group make (items ∷ rest ∷ outer) = more (make items) rest ∷ outer
with_group make groups = groups

abbrev pub dep_groups : List Token → List Deps
dep_groups [] = end ∷ []
dep_groups (tokens.Close ∷ ts) = end ∷ dep_groups ts
dep_groups (tokens.Open ∷ ts) = with_group all (dep_groups ts)
dep_groups (tokens.Any ∷ tokens.Open ∷ ts) = with_group any (dep_groups ts)
dep_groups (tokens.If flag negated ∷ tokens.Open ∷ ts) = with_group (when flag negated) (dep_groups ts)
dep_groups (tokens.Word text ∷ ts) = with_leaf (read_atom text) (dep_groups ts)
dep_groups (t ∷ ts) = dep_groups ts

-- None exactly where the bytes are no dependency within the limits
abbrev pub read_dep : List ℕ → Option (List Dep)
read_dep bytes =
    if is_none (first_fault dependency (tokens_of bytes)) then Some (listed (top (dep_groups (tokens_of bytes)))) else None
