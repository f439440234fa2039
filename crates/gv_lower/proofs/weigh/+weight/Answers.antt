use Rattle.std.proofs.Common.{◌≡◌, true, [], refl, sym, subst, ap, ◌∙◌}
use Rattle.gv_expr.specs.Dep as dep
use Rattle.gv_expr.specs.Dep.{deps}
use Rattle.gv_expr.specs.DepView.{dep_of}
use Rattle.gv_lower.specs.Around.{parent_of}
use Rattle.gv_lower.specs.Weigh.{capped, class_weight}
use Rattle.gv_lower.proofs.Weighing.{all_weight, any_weight, dep_next, leaf_weight, sums_next, when_weight}
use Rattle.gv_lower.proofs.weigh.+weight.Goals as goal

pub class_weight-loop-tree-preserved : goal.class_weight-loop-tree-preserved
class_weight-loop-tree-preserved g t c =
    sums_next c.loop-tree.weight c.in_ok-tree_weight.field-0 c.plus-weight.result (class_weight c.args.counted (parent_of c.args.candidates.now c.args.pkg.now) (dep.more (dep_of c.tree-item.result) dep.end)) _ _ _ c.loop-tree.invariant
    c.in_ok-tree_weight.ensures
    (dep_next c.args.counted (parent_of c.args.candidates.now c.args.pkg.now) c.deref-tree-items.result.now c.loop-tree.tree-index c.tree-item.result c.loop-tree-test.true c.tree-item.is) c.plus-weight.ensures

pub tree_weight-returns-in_ok-packages_weight-in-No : goal.tree_weight-returns-in_ok-packages_weight-in-No
tree_weight-returns-in_ok-packages_weight-in-No g t c =
    subst (λ tree. c.plus.result ≡ capped (class_weight c.args.counted (parent_of c.args.candidates.now c.args.pkg.now) (dep.more (dep_of tree) dep.end))) (sym c.in-Leaf.is)
    (c.plus.ensures 1 _ refl c.in_ok-packages_weight-in-No.ensures ∙ ap capped (sym (leaf_weight c.args.counted (parent_of c.args.candidates.now c.args.pkg.now) c.in-Leaf.atom c.in-No.is)))

pub tree_weight-returns-in_ok-class_weight-in-All : goal.tree_weight-returns-in_ok-class_weight-in-All
tree_weight-returns-in_ok-class_weight-in-All g t c =
    subst (λ tree. c.plus-in-All.result ≡ capped (class_weight c.args.counted (parent_of c.args.candidates.now c.args.pkg.now) (dep.more (dep_of tree) dep.end))) (sym c.in-All.is)
    (c.plus-in-All.ensures 2 _ refl c.in_ok-class_weight-in-All.ensures ∙ ap capped (sym (all_weight c.args.counted (parent_of c.args.candidates.now c.args.pkg.now) (deps c.in-All.items))))

pub tree_weight-returns-in_ok-class_weight-in-Any : goal.tree_weight-returns-in_ok-class_weight-in-Any
tree_weight-returns-in_ok-class_weight-in-Any g t c =
    subst (λ tree. c.plus-in-Any.result ≡ capped (class_weight c.args.counted (parent_of c.args.candidates.now c.args.pkg.now) (dep.more (dep_of tree) dep.end))) (sym c.in-Any.is)
    (c.plus-in-Any.ensures 3 _ refl c.in_ok-class_weight-in-Any.ensures ∙ ap capped (sym (any_weight c.args.counted (parent_of c.args.candidates.now c.args.pkg.now) (deps c.in-Any.items))))

pub tree_weight-returns-in_ok-class_weight-in-If : goal.tree_weight-returns-in_ok-class_weight-in-If
tree_weight-returns-in_ok-class_weight-in-If g t c =
    subst (λ tree. c.plus-in-If.result ≡ capped (class_weight c.args.counted (parent_of c.args.candidates.now c.args.pkg.now) (dep.more (dep_of tree) dep.end))) (sym c.in-If.is)
    (c.plus-in-If.ensures 3 _ refl c.in_ok-class_weight-in-If.ensures ∙ ap capped (sym (when_weight c.args.counted (parent_of c.args.candidates.now c.args.pkg.now) [] true (deps c.in-If.items))))
