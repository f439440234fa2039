-- The conditions of a group's conditionals, one by one.
use Rattle.std.proofs.Common.{◌≡◌, ℕ, suc, ◌+◌, ◌<◌, Bool, List, [], ◌∷◌, ◌++◌, length, drop, drop-cons, get_or, add-one, sym, ap, ◌∙◌, append_assoc, Option, Some, None}
use Rattle.std.specs.Prelude.{option_map}
use Rattle.gv_expr.specs.Dep.{Dep, deps}
use Rattle.gv_expr.specs.DepView as dep
use Rattle.gv_expr.specs.declared.dep.DepTree.{DepTree}
use Rattle.gv_expr.specs.declared.dep.DepTree.TheVariants as tree
use Rattle.gv_expr.specs.Required.{Req, reqs}
use Rattle.gv_expr.specs.RequiredView.{req_of, view_of}
use Rattle.gv_expr.specs.declared.required.UseTree.{UseTree}
use Rattle.gv_expr.specs.declared.required.UseTree.TheVariants.{If}
use Rattle.gv_logic.specs.Literals.{opposite}
use Rattle.gv_lower.specs.TreeGates.{Base, dep_unmet, req_unmet, signed}

pushed : (lits after : List ℕ) (lit : ℕ) (behind all : Option (List ℕ)) → after ≡ lits ++ lit ∷ [] → option_map (λ us. lits ++ us) (option_map (λ us. lit ∷ us) behind) ≡ all
    → option_map (λ us. after ++ us) behind ≡ all
pushed lits after lit (Some us) all more h = ap (λ xs. Some (xs ++ us)) more ∙ (ap Some (append_assoc lits (lit ∷ []) us) ∙ h)
pushed lits after lit None all more h = h

-- one more conditional of a REQUIRED_USE
pub req_unmet_next : (base : Base) (trees : List UseTree) (i : ℕ) (tree : UseTree) (flag : List ℕ) (negated : Bool) (inner : List Req) (lits after : List ℕ) (all : Option (List ℕ))
    → i < length trees → tree ≡ get_or trees i tree → tree ≡ If flag negated inner → after ≡ lits ++ opposite (signed negated (base.flag flag)) ∷ []
    → option_map (λ us. lits ++ us) (req_unmet (reqs (view_of (drop i trees))) base) ≡ all
    → option_map (λ us. after ++ us) (req_unmet (reqs (view_of (drop (i + 1) trees))) base) ≡ all
req_unmet_next base trees i tree flag negated inner lits after all lt here is more left =
    let at : drop i trees ≡ tree ∷ drop (i + 1) trees = rw add-one (drop-cons trees i tree lt ∙ ap (λ x. x ∷ drop (suc i) trees) (sym here)) in
    pushed lits after (opposite (signed negated (base.flag flag))) (req_unmet (reqs (view_of (drop (i + 1) trees))) base) all more
    (sym (ap (λ ts. option_map (λ us. lits ++ us) (req_unmet (reqs (view_of ts)) base)) at
    ∙ ap (λ t. option_map (λ us. lits ++ us) (req_unmet (reqs (req_of t ∷ view_of (drop (i + 1) trees))) base)) is) ∙ left)

-- and of a class
pub dep_unmet_next : (base : Base) (trees : List DepTree) (i : ℕ) (one : DepTree) (flag : List ℕ) (negated : Bool) (inner : List Dep) (lits after : List ℕ) (all : Option (List ℕ))
    → i < length trees → one ≡ get_or trees i one → one ≡ tree.If flag negated inner → after ≡ lits ++ opposite (signed negated (base.flag flag)) ∷ []
    → option_map (λ us. lits ++ us) (dep_unmet (deps (dep.view_of (drop i trees))) base) ≡ all
    → option_map (λ us. after ++ us) (dep_unmet (deps (dep.view_of (drop (i + 1) trees))) base) ≡ all
dep_unmet_next base trees i one flag negated inner lits after all lt here is more left =
    let at : drop i trees ≡ one ∷ drop (i + 1) trees = rw add-one (drop-cons trees i one lt ∙ ap (λ x. x ∷ drop (suc i) trees) (sym here)) in
    pushed lits after (opposite (signed negated (base.flag flag))) (dep_unmet (deps (dep.view_of (drop (i + 1) trees))) base) all more
    (sym (ap (λ ts. option_map (λ us. lits ++ us) (dep_unmet (deps (dep.view_of ts)) base)) at
    ∙ ap (λ t. option_map (λ us. lits ++ us) (dep_unmet (deps (dep.dep_of t ∷ dep.view_of (drop (i + 1) trees))) base)) is) ∙ left)
