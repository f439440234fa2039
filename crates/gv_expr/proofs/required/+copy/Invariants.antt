use Rattle.std.proofs.Common.{◌≡◌, ◌++◌, drop}
use Rattle.gv_expr.specs.RequiredView.{view_of}
use Rattle.gv_expr.proofs.required.+copy.Given as goal

abbrev pub invariant-UseExpr::copy-loop-tree : goal.invariant-UseExpr::copy-loop-tree
invariant-UseExpr::copy-loop-tree l = l.copied ++ view_of (drop l.tree-index l.tree-items) ≡ l.self
