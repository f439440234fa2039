use Rattle.std.proofs.Common.{◌≡◌, ◌++◌, drop}
use Rattle.gv_expr.specs.Dep.{deps}
use Rattle.gv_expr.specs.DepView.{view_of}
use Rattle.gv_expr.specs.Mentions.{dep_mentions}
use Rattle.gv_expr.proofs.mentions.Mentions.+deps.Given as goal

abbrev pub invariant-add_class-loop-tree : goal.invariant-add_class-loop-tree
invariant-add_class-loop-tree l = l.self ++ dep_mentions (deps (view_of (drop l.tree-index l.tree-items))) ≡ l.initial.self ++ dep_mentions (deps l.items)
