-- Tokens have no fault exactly where they are those of a REQUIRED_USE within the limits, whose leaves are such.
use Rattle.std.proofs.Common.{◌≡◌, ℕ, ◌≤◌, Bool, true, false, List, length, None, refl}
use Rattle.gv_version.specs.Names.{is_flag}
use Rattle.gv_expr.specs.Required.{Reqs, leaf, all, any, one, most, when, end, more}
use Rattle.gv_expr.specs.RequiredGrammar.{req_tokens, AreReqs}
use Rattle.gv_expr.specs.Leaves.{are_flags}
use Rattle.gv_expr.specs.declared.token.Token.TheVariants as tokens
use Rattle.gv_expr.specs.declared.fault.ExprKind.TheVariants.{BadFlag}
use Rattle.gv_expr.specs.TokenFaults.{required_use, fault_of, first_fault}
use Rattle.gv_expr.specs.Token.{signed}
use Rattle.gv_expr.proofs.Signs.{unsigned}
use Rattle.gv_expr.proofs.Bools.{and_left, and_right}
use Rattle.gv_expr.proofs.Faults as faults
use Rattle.gv_expr.proofs.Faults.{Spells, leaf_spells, group_spells, head_spells, unless_none}
use Rattle.gv_expr.proofs.Limits as limits
use Rattle.gv_expr.proofs.Limits.{Fits, leaf_fits, group_fits, head_fits}

spelled : (ts : Reqs) → are_flags ts ≡ true → Spells required_use (req_tokens ts) (λ depth. AreReqs depth ts)
spelled end good = faults.none_spells required_use
spelled (more (leaf flag negated) ts) good =
    leaf_spells required_use (tokens.Word (signed flag negated)) (req_tokens ts) (is_flag flag ≡ true) (λ depth. AreReqs depth ts) refl (λ n. refl) (λ depth fault. and_left _ _ good) (spelled ts (and_right _ _ good))
spelled (more (all items) ts) good = group_spells required_use (req_tokens items) (req_tokens ts) (λ depth. AreReqs depth items) (λ depth. AreReqs depth ts) (spelled items (and_left _ _ good)) (spelled ts (and_right _ _ good))
spelled (more (any items) ts) good =
    head_spells required_use tokens.Any (req_tokens items) (req_tokens ts) (λ depth. AreReqs depth items) (λ depth. AreReqs depth ts) (λ depth. AreReqs depth (more (any items) ts)) refl (λ n. refl) (λ depth fault is. is) (spelled items (and_left _ _ good)) (spelled ts (and_right _ _ good))
spelled (more (one items) ts) good =
    head_spells required_use tokens.One (req_tokens items) (req_tokens ts) (λ depth. AreReqs depth items) (λ depth. AreReqs depth ts) (λ depth. AreReqs depth (more (one items) ts)) refl (λ n. refl) (λ depth fault is. is) (spelled items (and_left _ _ good)) (spelled ts (and_right _ _ good))
spelled (more (most items) ts) good =
    head_spells required_use tokens.Most (req_tokens items) (req_tokens ts) (λ depth. AreReqs depth items) (λ depth. AreReqs depth ts) (λ depth. AreReqs depth (more (most items) ts)) refl (λ n. refl) (λ depth fault is. is) (spelled items (and_left _ _ good)) (spelled ts (and_right _ _ good))
spelled (more (when flag negated items) ts) good =
    head_spells required_use (tokens.If flag negated) (req_tokens items) (req_tokens ts) (λ depth. AreReqs depth items) (λ depth. AreReqs depth ts) (λ depth. AreReqs depth (more (when flag negated items) ts)) refl (λ n. refl) (λ depth fault is. (unless_none (is_flag flag) BadFlag fault, is.0, is.1, is.2)) (spelled items (and_left _ _ good)) (spelled ts (and_right _ _ good))

pub no_fault : (ts : Reqs) → are_flags ts ≡ true → first_fault required_use (req_tokens ts) ≡ None → AreReqs 0 ts × (length (req_tokens ts) ≤ 100000)
no_fault ts good e = faults.no_fault required_use (req_tokens ts) (λ depth. AreReqs depth ts) (spelled ts good) e

word_good : (flag : List ℕ) (negated : Bool) (depth : ℕ) → is_flag flag ≡ true → fault_of required_use (tokens.Word (signed flag negated)) false depth ≡ None
word_good flag negated depth good = let h = unsigned flag negated good in rw (h, good) refl

flag_good : (flag : List ℕ) (negated : Bool) (depth : ℕ) → is_flag flag ≡ true → fault_of required_use (tokens.If flag negated) false depth ≡ None
flag_good flag negated depth good = rw good refl

fits : (ts : Reqs) → Fits required_use (req_tokens ts) (λ depth. AreReqs depth ts)
fits end = limits.none_fits required_use
fits (more (leaf flag negated) ts) =
    leaf_fits required_use (tokens.Word (signed flag negated)) (req_tokens ts) (is_flag flag ≡ true) (λ depth. AreReqs depth ts) refl (λ n. refl) (λ depth good. word_good flag negated depth good) (fits ts)
fits (more (all items) ts) = group_fits required_use (req_tokens items) (req_tokens ts) (λ depth. AreReqs depth items) (λ depth. AreReqs depth ts) (fits items) (fits ts)
fits (more (any items) ts) =
    head_fits required_use tokens.Any (req_tokens items) (req_tokens ts) (λ depth. AreReqs depth items) (λ depth. AreReqs depth ts) (λ depth. AreReqs depth (more (any items) ts)) refl (λ n. refl) (λ depth is. refl) (λ depth is. is) (fits items) (fits ts)
fits (more (one items) ts) =
    head_fits required_use tokens.One (req_tokens items) (req_tokens ts) (λ depth. AreReqs depth items) (λ depth. AreReqs depth ts) (λ depth. AreReqs depth (more (one items) ts)) refl (λ n. refl) (λ depth is. refl) (λ depth is. is) (fits items) (fits ts)
fits (more (most items) ts) =
    head_fits required_use tokens.Most (req_tokens items) (req_tokens ts) (λ depth. AreReqs depth items) (λ depth. AreReqs depth ts) (λ depth. AreReqs depth (more (most items) ts)) refl (λ n. refl) (λ depth is. refl) (λ depth is. is) (fits items) (fits ts)
fits (more (when flag negated items) ts) =
    head_fits required_use (tokens.If flag negated) (req_tokens items) (req_tokens ts) (λ depth. AreReqs depth items) (λ depth. AreReqs depth ts) (λ depth. AreReqs depth (more (when flag negated items) ts)) refl (λ n. refl) (λ depth is. flag_good flag negated depth is.0) (λ depth is. (is.1, is.2, is.3)) (fits items) (fits ts)

pub has_no_fault : (ts : Reqs) → AreReqs 0 ts → length (req_tokens ts) ≤ 100000 → first_fault required_use (req_tokens ts) ≡ None
has_no_fault ts good few = limits.has_no_fault required_use (req_tokens ts) (λ depth. AreReqs depth ts) (fits ts) good few
