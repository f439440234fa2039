use Rattle.std.proofs.Common.{◌≡◌, drop}
use Rattle.gv_expr.specs.DepView.{view_of}
use Rattle.gv_expr.proofs.dep.+same.Given as goal

abbrev pub invariant-DepExpr::is_same-loop-tree : goal.invariant-DepExpr::is_same-loop-tree
invariant-DepExpr::is_same-loop-tree l = record {
  yes : view_of (drop l.tree-index l.tree-items) ≡ view_of l.rest → l.self ≡ l.other;
  no : l.self ≡ l.other → view_of (drop l.tree-index l.tree-items) ≡ view_of l.rest;
}
