-- Tokens have no fault exactly where they are those of a dependency within the limits, whose leaves are such.
use Rattle.std.proofs.Common.{◌≡◌, ℕ, ◌≤◌, Bool, true, false, List, length, None, refl}
use Rattle.gv_version.specs.Names.{is_flag}
use Rattle.gv_atom.specs.declared.atom.Atom.{Atom}
use Rattle.gv_atom.specs.Grammar.{atom_text, is_atom}
use Rattle.gv_atom.specs.Laws.{IsWritten}
use Rattle.gv_expr.specs.Dep.{Deps, leaf, all, any, when, end, more}
use Rattle.gv_expr.specs.DepGrammar.{dep_tokens, AreDeps}
use Rattle.gv_expr.specs.Leaves.{are_atoms}
use Rattle.gv_expr.specs.declared.token.Token.TheVariants as tokens
use Rattle.gv_expr.specs.declared.fault.ExprKind.TheVariants.{BadFlag}
use Rattle.gv_expr.specs.TokenFaults.{dependency, fault_of, first_fault}
use Rattle.gv_expr.proofs.Bools.{and_left, and_right}
use Rattle.gv_expr.proofs.Faults as faults
use Rattle.gv_expr.proofs.Faults.{Spells, leaf_spells, group_spells, head_spells, unless_none}
use Rattle.gv_expr.proofs.Limits as limits
use Rattle.gv_expr.proofs.Limits.{Fits, leaf_fits, group_fits, head_fits}

spelled : (ts : Deps) → are_atoms ts ≡ true → Spells dependency (dep_tokens ts) (λ depth. AreDeps depth ts)
spelled end good = faults.none_spells dependency
spelled (more (leaf atom) ts) good =
    leaf_spells dependency (tokens.Word (atom_text atom)) (dep_tokens ts) (is_atom atom ≡ true) (λ depth. AreDeps depth ts) refl (λ n. refl) (λ depth fault. and_left _ _ good) (spelled ts (and_right _ _ good))
spelled (more (all items) ts) good = group_spells dependency (dep_tokens items) (dep_tokens ts) (λ depth. AreDeps depth items) (λ depth. AreDeps depth ts) (spelled items (and_left _ _ good)) (spelled ts (and_right _ _ good))
spelled (more (any items) ts) good =
    head_spells dependency tokens.Any (dep_tokens items) (dep_tokens ts) (λ depth. AreDeps depth items) (λ depth. AreDeps depth ts) (λ depth. AreDeps depth (more (any items) ts)) refl (λ n. refl) (λ depth fault is. is) (spelled items (and_left _ _ good)) (spelled ts (and_right _ _ good))
spelled (more (when flag negated items) ts) good =
    head_spells dependency (tokens.If flag negated) (dep_tokens items) (dep_tokens ts) (λ depth. AreDeps depth items) (λ depth. AreDeps depth ts) (λ depth. AreDeps depth (more (when flag negated items) ts)) refl (λ n. refl) (λ depth fault is. (unless_none (is_flag flag) BadFlag fault, is.0, is.1, is.2)) (spelled items (and_left _ _ good)) (spelled ts (and_right _ _ good))

pub no_fault : (ts : Deps) → are_atoms ts ≡ true → first_fault dependency (dep_tokens ts) ≡ None → AreDeps 0 ts × (length (dep_tokens ts) ≤ 100000)
no_fault ts good e = faults.no_fault dependency (dep_tokens ts) (λ depth. AreDeps depth ts) (spelled ts good) e

-- the text of each atom is read as that atom
abbrev pub AreWritten : Type 0
AreWritten = (a : Atom) → is_atom a ≡ true → IsWritten a

word_good : AreWritten → (atom : Atom) (depth : ℕ) → is_atom atom ≡ true → fault_of dependency (tokens.Word (atom_text atom)) false depth ≡ None
word_good written atom depth good = let h = (written atom good).fault in rw h refl

flag_good : (flag : List ℕ) (negated : Bool) (depth : ℕ) → is_flag flag ≡ true → fault_of dependency (tokens.If flag negated) false depth ≡ None
flag_good flag negated depth good = rw good refl

fits : AreWritten → (ts : Deps) → Fits dependency (dep_tokens ts) (λ depth. AreDeps depth ts)
fits written end = limits.none_fits dependency
fits written (more (leaf atom) ts) =
    leaf_fits dependency (tokens.Word (atom_text atom)) (dep_tokens ts) (is_atom atom ≡ true) (λ depth. AreDeps depth ts) refl (λ n. refl) (λ depth good. word_good written atom depth good) (fits written ts)
fits written (more (all items) ts) = group_fits dependency (dep_tokens items) (dep_tokens ts) (λ depth. AreDeps depth items) (λ depth. AreDeps depth ts) (fits written items) (fits written ts)
fits written (more (any items) ts) =
    head_fits dependency tokens.Any (dep_tokens items) (dep_tokens ts) (λ depth. AreDeps depth items) (λ depth. AreDeps depth ts) (λ depth. AreDeps depth (more (any items) ts)) refl (λ n. refl) (λ depth is. refl) (λ depth is. is) (fits written items) (fits written ts)
fits written (more (when flag negated items) ts) =
    head_fits dependency (tokens.If flag negated) (dep_tokens items) (dep_tokens ts) (λ depth. AreDeps depth items) (λ depth. AreDeps depth ts) (λ depth. AreDeps depth (more (when flag negated items) ts)) refl (λ n. refl) (λ depth is. flag_good flag negated depth is.0) (λ depth is. (is.1, is.2, is.3)) (fits written items) (fits written ts)

pub has_no_fault : AreWritten → (ts : Deps) → AreDeps 0 ts → length (dep_tokens ts) ≤ 100000 → first_fault dependency (dep_tokens ts) ≡ None
has_no_fault written ts good few = limits.has_no_fault dependency (dep_tokens ts) (λ depth. AreDeps depth ts) (fits written ts) good few
