use Rattle.std.proofs.Common.{◌++◌, [], ◌∷◌}
use Rattle.gv_expr.specs.Dep.{deps}
use Rattle.gv_expr.specs.DepGrammar.{dep_tokens}
use Rattle.gv_expr.specs.DepView.{dep_of, view_of}
use Rattle.gv_expr.specs.Spaced.{spaced}
use Rattle.gv_expr.proofs.SpacedLemmas.{dep_first, step_printed}
use Rattle.gv_expr.proofs.printing.+deps.Goals as goal

pub append_deps-loop-tree-preserved : goal.append_deps-loop-tree-preserved
append_deps-loop-tree-preserved t c =
    step_printed (λ x. spaced (dep_tokens (deps (dep_of x ∷ [])))) (λ xs. spaced (dep_tokens (deps (view_of xs)))) (λ x xs. dep_first (dep_of x) (view_of xs))
    c.deref-tree-items.result.now c.loop-tree.tree-index c.tree-item.result c.loop-tree.text c.append_dep.new.text
    (c.args.text.now ++ spaced (dep_tokens (deps c.args.items.now))) c.loop-tree-test.true c.tree-item.is c.loop-tree.invariant c.in_ok-append_dep.ensures
