-- How many groups stand in one another in an expression with one more tree.
use Rattle.std.proofs.Common.{◌≡◌, ℕ, List, [], ◌∷◌, ◌++◌, sym, arith}
use Rattle.std.specs.Prelude.{max}
use Rattle.std.proofs.Math.Nat.{zero-max, sub-add-eq-max}
use Rattle.std.proofs.Common.{ap, ◌∙◌}
use Rattle.std.proofs.lemmas.List.{map-append}
use Rattle.gv_expr.specs.DepView as dep_view
use Rattle.gv_expr.specs.DepView.{dep_of}
use Rattle.gv_expr.specs.RequiredView as req_view
use Rattle.gv_expr.specs.RequiredView.{req_of}
use Rattle.gv_expr.specs.declared.dep.DepTree.{DepTree}
use Rattle.gv_expr.specs.declared.required.UseTree.{UseTree}
use Rattle.gv_expr.specs.Dep as dep
use Rattle.gv_expr.specs.Dep.{Dep, deps}
use Rattle.gv_expr.specs.Required as req
use Rattle.gv_expr.specs.Required.{Req, reqs}

further : (a b c d : ℕ) → b ≡ max c d → max a b ≡ max (max a c) d
further a b c d e = omega (arith, sub-add-eq-max a b, sub-add-eq-max a c, sub-add-eq-max c d, sub-add-eq-max (max a c) d, e)

pub dep_depth : (ts : List Dep) (t : Dep) → dep.depth_of (deps (ts ++ t ∷ [])) ≡ max (dep.depth_of (deps ts)) (dep.depth_of (deps (t ∷ [])))
dep_depth [] t = sym (zero-max (dep.depth_of (deps (t ∷ []))))
dep_depth (dep.leaf atom ∷ ts) t = dep_depth ts t
dep_depth (dep.all items ∷ ts) t = further _ _ _ _ (dep_depth ts t)
dep_depth (dep.any items ∷ ts) t = further _ _ _ _ (dep_depth ts t)
dep_depth (dep.when f n items ∷ ts) t = further _ _ _ _ (dep_depth ts t)

pub req_depth : (ts : List Req) (t : Req) → req.depth_of (reqs (ts ++ t ∷ [])) ≡ max (req.depth_of (reqs ts)) (req.depth_of (reqs (t ∷ [])))
req_depth [] t = sym (zero-max (req.depth_of (reqs (t ∷ []))))
req_depth (req.leaf f n ∷ ts) t = req_depth ts t
req_depth (req.all items ∷ ts) t = further _ _ _ _ (req_depth ts t)
req_depth (req.any items ∷ ts) t = further _ _ _ _ (req_depth ts t)
req_depth (req.one items ∷ ts) t = further _ _ _ _ (req_depth ts t)
req_depth (req.most items ∷ ts) t = further _ _ _ _ (req_depth ts t)
req_depth (req.when f n items ∷ ts) t = further _ _ _ _ (req_depth ts t)

-- the number that is kept is that of the trees with the one that was added
pub dep_kept : (old new : List DepTree) (item : DepTree) (d e m : ℕ) → d ≡ dep.depth_of (deps (dep_view.view_of old)) → e ≡ dep.depth_of (deps (dep_of item ∷ []))
    → new ≡ old ++ item ∷ [] → m ≡ max d e → m ≡ dep.depth_of (deps (dep_view.view_of new))
dep_kept old new item d e m ed ee en em =
    em ∙ ap (λ x. max x e) ed ∙ ap (max (dep.depth_of (deps (dep_view.view_of old)))) ee ∙ sym (dep_depth (dep_view.view_of old) (dep_of item))
    ∙ ap (λ x. dep.depth_of (deps x)) (sym (map-append dep_of old (item ∷ []))) ∙ ap (λ x. dep.depth_of (deps (dep_view.view_of x))) (sym en)

pub req_kept : (old new : List UseTree) (item : UseTree) (d e m : ℕ) → d ≡ req.depth_of (reqs (req_view.view_of old)) → e ≡ req.depth_of (reqs (req_of item ∷ []))
    → new ≡ old ++ item ∷ [] → m ≡ max d e → m ≡ req.depth_of (reqs (req_view.view_of new))
req_kept old new item d e m ed ee en em =
    em ∙ ap (λ x. max x e) ed ∙ ap (max (req.depth_of (reqs (req_view.view_of old)))) ee ∙ sym (req_depth (req_view.view_of old) (req_of item))
    ∙ ap (λ x. req.depth_of (reqs x)) (sym (map-append req_of old (item ∷ []))) ∙ ap (λ x. req.depth_of (reqs (req_view.view_of x))) (sym en)
