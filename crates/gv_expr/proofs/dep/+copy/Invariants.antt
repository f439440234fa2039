use Rattle.std.proofs.Common.{◌≡◌, ◌++◌, drop}
use Rattle.gv_expr.specs.DepView.{view_of}
use Rattle.gv_expr.proofs.dep.+copy.Given as goal

abbrev pub invariant-DepExpr::copy-loop-tree : goal.invariant-DepExpr::copy-loop-tree
invariant-DepExpr::copy-loop-tree l = l.copied ++ view_of (drop l.tree-index l.tree-items) ≡ l.self
