use Rattle.std.proofs.Common.{drop}
use Rattle.gv_expr.specs.Dep.{deps}
use Rattle.gv_expr.specs.DepView.{view_of}
use Rattle.gv_lower.specs.Around.{parent_of}
use Rattle.gv_lower.specs.Weigh.{class_weight}
use Rattle.gv_lower.proofs.Weighing.{SumsOn}
use Rattle.gv_lower.proofs.weigh.+weight.Given as goal

abbrev pub invariant-class_weight-loop-tree : goal.invariant-class_weight-loop-tree
invariant-class_weight-loop-tree g l =
    SumsOn l.weight (class_weight l.counted (parent_of l.candidates l.pkg) (deps (view_of (drop l.tree-index l.tree-items)))) (class_weight l.counted (parent_of l.candidates l.pkg) (deps l.items))
