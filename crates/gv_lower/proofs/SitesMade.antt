-- Sites of the atoms of a class, tree by tree.
use Rattle.std.proofs.Common.{◌≡◌, ℕ, suc, ◌+◌, ◌<◌, List, [], ◌∷◌, ◌++◌, length, drop, drop-cons, get_or, map, add-one, append-nil, append_assoc, refl, sym, ap, ◌∙◌}
use Rattle.std.proofs.lemmas.List.{map-append}
use Rattle.std.specs.Prelude.{Result, OnOk}
use Rattle.gv_atom.specs.declared.atom.Atom.{Atom}
use Rattle.gv_atom.specs.declared.atom.Block.{Block}
use Rattle.gv_atom.specs.declared.atom.Block.TheVariants.{No, Strong, Weak}
use Rattle.gv_expr.specs.Dep as dep
use Rattle.gv_expr.specs.Dep.{Dep, deps}
use Rattle.gv_expr.specs.DepView.{dep_of, view_of}
use Rattle.gv_expr.specs.Mentions.{wanted_atoms, with_atom}
use Rattle.gv_expr.specs.declared.dep.DepTree.{DepTree}
use Rattle.gv_lower.proofs.KeysMade.{on_ok}

atom_split : (atom : Atom) (block : Block) (rest : List Atom) → with_atom atom block rest ≡ with_atom atom block [] ++ rest
atom_split atom No rest = refl
atom_split atom Weak rest = refl
atom_split atom Strong rest = refl

wanted_split : (tree : Dep) (rest : List Dep) → wanted_atoms (deps (tree ∷ rest)) ≡ wanted_atoms (deps (tree ∷ [])) ++ wanted_atoms (deps rest)
wanted_split (dep.leaf atom) rest = atom_split atom atom.block (wanted_atoms (deps rest))
wanted_split (dep.all items) rest = ap (λ xs. xs ++ wanted_atoms (deps rest)) (sym (append-nil (wanted_atoms items)))
wanted_split (dep.any items) rest = ap (λ xs. xs ++ wanted_atoms (deps rest)) (sym (append-nil (wanted_atoms items)))
wanted_split (dep.when flag negated items) rest = ap (λ xs. xs ++ wanted_atoms (deps rest)) (sym (append-nil (wanted_atoms items)))

-- one more tree
pub sites_next : {S : Type 0} (site : Atom → S) (trees : List DepTree) (i : ℕ) (tree : DepTree) (now next end : List S) → i < length trees → tree ≡ get_or trees i tree
    → now ++ map site (wanted_atoms (deps (view_of (drop i trees)))) ≡ end → next ≡ now ++ map site (wanted_atoms (deps (dep_of tree ∷ [])))
    → next ++ map site (wanted_atoms (deps (view_of (drop (i + 1) trees)))) ≡ end
sites_next site trees i tree now next end lt here left is =
    let at : drop i trees ≡ tree ∷ drop (i + 1) trees = rw add-one (drop-cons trees i tree lt ∙ ap (λ x. x ∷ drop (suc i) trees) (sym here)) in
    ap (λ ks. ks ++ map site (wanted_atoms (deps (view_of (drop (i + 1) trees))))) is
    ∙ (append_assoc now (map site (wanted_atoms (deps (dep_of tree ∷ [])))) (map site (wanted_atoms (deps (view_of (drop (i + 1) trees)))))
    ∙ (ap (λ ks. now ++ ks) (sym (map-append site (wanted_atoms (deps (dep_of tree ∷ []))) (wanted_atoms (deps (view_of (drop (i + 1) trees))))))
    ∙ (ap (λ xs. now ++ map site xs) (sym (wanted_split (dep_of tree) (view_of (drop (i + 1) trees))))
    ∙ (ap (λ ts. now ++ map site (wanted_atoms (deps (view_of ts)))) (sym at) ∙ left))))

-- what a group holds
pub sites_group : {T E S : Type 0} (r : Result T E) (site : Atom → S) (tree : DepTree) (inner : List Atom) (old new : List S) → wanted_atoms (deps (dep_of tree ∷ [])) ≡ inner ++ []
    → OnOk r (new ≡ old ++ map site inner) → OnOk r (new ≡ old ++ map site (wanted_atoms (deps (dep_of tree ∷ []))))
sites_group r site tree inner old new same = on_ok r (λ e. e ∙ ap (λ xs. old ++ map site xs) (sym (append-nil inner) ∙ sym same))
