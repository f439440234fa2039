use Rattle.std.proofs.Common.{[], ◌∷◌, ◌++◌, ap, ◌∙◌}
use Rattle.gv_expr.specs.Dep.{deps}
use Rattle.gv_logic.specs.Literals.{opposite}
use Rattle.gv_lower.specs.Parent.{base_at}
use Rattle.gv_lower.specs.TreeGates.{dep_unmet}
use Rattle.gv_lower.proofs.Unmet.{dep_unmet_next}
use Rattle.gv_lower.proofs.class.unmet.Goals as goal

pub loop-tree-preserved : goal.loop-tree-preserved
loop-tree-preserved c =
    dep_unmet_next (base_at c.args.parent.now) c.deref-tree-items.result.now c.loop-tree.tree-index c.tree-item.result c.in-If.flag c.in-If.negated _ c.loop-tree.lits c.add.new.self (dep_unmet (deps c.args.items.now) (base_at c.args.parent.now))
    c.loop-tree-test.true c.tree-item.is c.in-If.is (c.in_ok-add-in-If.ensures.ok ∙ ap (λ lit. c.loop-tree.lits ++ lit ∷ []) (c.opposite.ensures ∙ ap opposite c.condition.ensures)) c.loop-tree.invariant
