use Rattle.gv_expr.proofs.SameDeps.{in_all, in_any, in_if}
use Rattle.gv_expr.proofs.dep.+same.Goals as goal

pub DepTree::is_same-returns-in-All-All-clause-no : goal.DepTree::is_same-returns-in-All-All-clause-no
DepTree::is_same-returns-in-All-All-clause-no t c = λ e. c.is_same-in-All-All.ensures.no (in_all c.args.self.now c.args.other.now c.in-All-All.a c.in-All-All.b e c.in-All-All.is-0 c.in-All-All.is-1)

pub DepTree::is_same-returns-in-Any-Any-clause-no : goal.DepTree::is_same-returns-in-Any-Any-clause-no
DepTree::is_same-returns-in-Any-Any-clause-no t c = λ e. c.is_same-in-Any-Any.ensures.no (in_any c.args.self.now c.args.other.now c.in-Any-Any.a c.in-Any-Any.b e c.in-Any-Any.is-0 c.in-Any-Any.is-1)

pub DepTree::is_same-returns-then-eq-clause-no : goal.DepTree::is_same-returns-then-eq-clause-no
DepTree::is_same-returns-then-eq-clause-no t c =
    λ e. c.is_same-then-eq.ensures.no (in_if c.args.self.now c.args.other.now c.in-If-If.a c.in-If-If.b e _ _ _ _ c.in-If-If.is-0 c.in-If-If.is-1)
