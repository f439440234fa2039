-- What is written of a dependency is read back as it was, where each of its atoms is.
use Rattle.std.proofs.Common.{◌≡◌, List, [], ◌∷◌, ◌++◌, refl, ap, sym, ◌∙◌, append_assoc, append-nil, Some}
use Rattle.gv_atom.specs.Grammar.{atom_text}
use Rattle.gv_atom.specs.Reading.{read_atom}
use Rattle.gv_expr.specs.declared.token.Token.{Token}
use Rattle.gv_expr.specs.declared.token.Token.TheVariants as tokens
use Rattle.gv_expr.specs.Dep.{Dep, Deps, leaf, all, any, when, end, more, deps, listed, top}
use Rattle.gv_expr.specs.DepStored.{listed-deps}
use Rattle.gv_expr.specs.DepGrammar.{dep_tokens}
use Rattle.gv_expr.specs.DepRead.{dep_groups, with_leaf, with_group}

-- the trees and then the rest
abbrev before : Deps → Deps → Deps
before end rest = rest
before (more t ts) rest = more t (before ts rest)

before_end : (ts : Deps) → before ts end ≡ ts
before_end end = refl
before_end (more t ts) = ap (more t) (before_end ts)

-- each atom is read back
abbrev pub AtomsRead : Deps → Type 0
AtomsRead end = Unit {0}
AtomsRead (more (leaf atom) rest) = (read_atom (atom_text atom) ≡ Some atom) × AtomsRead rest
AtomsRead (more (all items) rest) = AtomsRead items × AtomsRead rest
AtomsRead (more (any items) rest) = AtomsRead items × AtomsRead rest
AtomsRead (more (when flag negated items) rest) = AtomsRead items × AtomsRead rest

unfoldable pub IsReadBack : Deps → Type 0
IsReadBack ts = (k : List Token) (rest : Deps) (outer : List Deps) → dep_groups k ≡ rest ∷ outer → dep_groups (dep_tokens ts ++ k) ≡ before ts rest ∷ outer

group_read : (make : Deps → Dep) (items ts : Deps) → IsReadBack items → IsReadBack ts → (k : List Token) (rest : Deps) (outer : List Deps) → dep_groups k ≡ rest ∷ outer
    → with_group make (dep_groups ((dep_tokens items ++ tokens.Close ∷ dep_tokens ts) ++ k)) ≡ more (make items) (before ts rest) ∷ outer
unfolding IsReadBack
group_read make items ts of_items of_ts k rest outer e =
    ap (λ x. with_group make (dep_groups x)) (append_assoc (dep_tokens items) (tokens.Close ∷ dep_tokens ts) k)
    ∙ ap (with_group make) (of_items (tokens.Close ∷ (dep_tokens ts ++ k)) end (before ts rest ∷ outer) (ap (λ x. end ∷ x) (of_ts k rest outer e)))
    ∙ ap (λ x. more (make x) (before ts rest) ∷ outer) (before_end items)

pub read_back : (ts : Deps) → AtomsRead ts → IsReadBack ts
unfolding IsReadBack
read_back end good k rest outer e = e
read_back (more (leaf atom) ts) good k rest outer e =
    ap (λ x. with_leaf (read_atom (atom_text atom)) x) (read_back ts good.1 k rest outer e) ∙ ap (λ x. with_leaf x (before ts rest ∷ outer)) good.0
read_back (more (all items) ts) good k rest outer e = group_read all items ts (read_back items good.0) (read_back ts good.1) k rest outer e
read_back (more (any items) ts) good k rest outer e = group_read any items ts (read_back items good.0) (read_back ts good.1) k rest outer e
read_back (more (when flag negated items) ts) good k rest outer e = group_read (when flag negated) items ts (read_back items good.0) (read_back ts good.1) k rest outer e

-- the trees of the tokens of trees
pub read_again : (ts : List Dep) → AtomsRead (deps ts) → listed (top (dep_groups (dep_tokens (deps ts)))) ≡ ts
unfolding IsReadBack
read_again ts good =
    ap (λ x. listed (top (dep_groups x))) (sym (append-nil (dep_tokens (deps ts))))
    ∙ ap (λ x. listed (top x)) (read_back (deps ts) good [] end [] refl)
    ∙ ap listed (before_end (deps ts)) ∙ listed-deps ts
