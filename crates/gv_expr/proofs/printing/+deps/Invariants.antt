use Rattle.std.proofs.Common.{◌≡◌, ◌++◌, drop}
use Rattle.gv_expr.specs.Dep.{deps}
use Rattle.gv_expr.specs.DepView.{view_of}
use Rattle.gv_expr.specs.DepGrammar.{dep_tokens}
use Rattle.gv_expr.specs.Spaced.{spaced}
use Rattle.gv_expr.proofs.printing.+deps.Given as goal

abbrev pub invariant-append_deps-loop-tree : goal.invariant-append_deps-loop-tree
invariant-append_deps-loop-tree l = l.text ++ spaced (dep_tokens (deps (view_of (drop l.tree-index l.tree-items)))) ≡ l.initial.text ++ spaced (dep_tokens (deps l.items))
