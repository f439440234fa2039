use Rattle.gv_expr.proofs.DepSteps.{leaf_good}
use Rattle.gv_expr.proofs.dep.DepExprGrammar.add_leaf.Goals as goal

pub returns-in_ok-add-in-Ok-clause-good : goal.returns-in_ok-add-in-Ok-clause-good
returns-in_ok-add-in-Ok-clause-good c = leaf_good c.args.text.now c.in-Ok.atom (rw c.bytes.ensures at c.in-Ok.ensures.read)
