-- The tokens and the leaves of a dependency with one more tree.
use Rattle.std.proofs.Common.{◌≡◌, ℕ, Bool, true, false, List, [], ◌∷◌, ◌++◌, Option, Some, None, refl, ap, append_assoc, ◌∙◌}
use Rattle.std.specs.Prelude.{◌&&◌, is_none, if◌then◌else◌}
use Rattle.std.proofs.Math.Bool.{and_assoc}
use Rattle.gv_atom.specs.declared.atom.Atom.{Atom}
use Rattle.gv_atom.specs.Reading.{Fault, atom_fault, atom_in, divided, read_atom}
use Rattle.gv_atom.specs.Grammar.{atom_text, is_atom}
use Rattle.gv_expr.specs.Dep.{Dep, leaf, all, any, when, end, more, deps}
use Rattle.gv_expr.specs.DepGrammar.{dep_tokens}
use Rattle.gv_expr.specs.TokenFaults.{unless}
use Rattle.gv_expr.specs.declared.fault.ExprKind.TheVariants.{BadAtom}
use Rattle.gv_expr.specs.Leaves.{are_atoms}
use Rattle.gv_expr.specs.declared.token.Token.{Token}
use Rattle.gv_expr.specs.declared.token.Token.TheVariants.{Word}

pub dep_tokens-append : (a b : List Dep) → dep_tokens (deps (a ++ b)) ≡ dep_tokens (deps a) ++ dep_tokens (deps b)
dep_tokens-append [] b = refl
dep_tokens-append (leaf atom ∷ ts) b = ap (λ r. Word (atom_text atom) ∷ r) (dep_tokens-append ts b)
dep_tokens-append (all items ∷ ts) b = let h = dep_tokens-append ts b in simp (h, append_assoc)
dep_tokens-append (any items ∷ ts) b = let h = dep_tokens-append ts b in simp (h, append_assoc)
dep_tokens-append (when f n items ∷ ts) b = let h = dep_tokens-append ts b in simp (h, append_assoc)

are_atoms-append : (a b : List Dep) → are_atoms (deps (a ++ b)) ≡ (are_atoms (deps a) && are_atoms (deps b))
are_atoms-append [] b = refl
are_atoms-append (leaf atom ∷ ts) b = let h = are_atoms-append ts b in simp (h, and_assoc)
are_atoms-append (all items ∷ ts) b = let h = are_atoms-append ts b in simp (h, and_assoc)
are_atoms-append (any items ∷ ts) b = let h = are_atoms-append ts b in simp (h, and_assoc)
are_atoms-append (when f n items ∷ ts) b = let h = are_atoms-append ts b in simp (h, and_assoc)

and-true : (b : Bool) → (b && true) ≡ b
and-true true = refl
and-true false = refl

-- one more atom
pub leaf_tokens : (before after : List Dep) (atom : Atom) (text : List ℕ) → after ≡ before ++ leaf atom ∷ [] → atom_text atom ≡ text → dep_tokens (deps after) ≡ dep_tokens (deps before) ++ Word text ∷ []
leaf_tokens before after atom text e h = ap (λ x. dep_tokens (deps x)) e ∙ dep_tokens-append before (leaf atom ∷ []) ∙ ap (λ x. dep_tokens (deps before) ++ Word x ∷ []) h

pub leaf_leaves : (before after : List Dep) (atom : Atom) → after ≡ before ++ leaf atom ∷ [] → is_atom atom ≡ true → are_atoms (deps after) ≡ are_atoms (deps before)
leaf_leaves before after atom e h =
    ap (λ x. are_atoms (deps x)) e ∙ are_atoms-append before (leaf atom ∷ []) ∙ ap (λ x. are_atoms (deps before) && (x && true)) h ∙ and-true (are_atoms (deps before))

pub group_leaves : (items : List Dep) → (are_atoms (deps items) && true) ≡ are_atoms (deps items)
group_leaves items = and-true (are_atoms (deps items))

-- bytes that are read have no fault
fault_if : (bytes : List ℕ) (atom : Atom) (f : Option Fault) → (if is_none f then atom_in (divided bytes) else None) ≡ Some atom → unless (is_none f) BadAtom ≡ None
fault_if bytes atom None e = refl
fault_if bytes atom (Some f) e = cc

pub leaf_good : (bytes : List ℕ) (atom : Atom) → read_atom bytes ≡ Some atom → unless (is_none (atom_fault bytes)) BadAtom ≡ None
leaf_good bytes atom e = fault_if bytes atom (atom_fault bytes) e

-- one more tree
pub more_tokens : (before after : List Dep) (t : Dep) (tokens : List Token) → after ≡ before ++ t ∷ [] → dep_tokens (more t end) ≡ tokens → dep_tokens (deps after) ≡ dep_tokens (deps before) ++ tokens
more_tokens before after t tokens e h = ap (λ x. dep_tokens (deps x)) e ∙ dep_tokens-append before (t ∷ []) ∙ ap (λ x. dep_tokens (deps before) ++ x) h

pub more_leaves : (before after : List Dep) (t : Dep) (good : Bool) → after ≡ before ++ t ∷ [] → are_atoms (more t end) ≡ good → are_atoms (deps after) ≡ (are_atoms (deps before) && good)
more_leaves before after t good e h = ap (λ x. are_atoms (deps x)) e ∙ are_atoms-append before (t ∷ []) ∙ ap (λ x. are_atoms (deps before) && x) h
