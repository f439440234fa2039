use Rattle.std.proofs.Common.{◌++◌, [], ◌∷◌}
use Rattle.gv_expr.specs.Required.{reqs}
use Rattle.gv_expr.specs.RequiredGrammar.{req_tokens}
use Rattle.gv_expr.specs.RequiredView.{req_of, view_of}
use Rattle.gv_expr.specs.Spaced.{spaced}
use Rattle.gv_expr.proofs.SpacedLemmas.{req_first, step_printed}
use Rattle.gv_expr.proofs.printing.+uses.Goals as goal

pub append_uses-loop-tree-preserved : goal.append_uses-loop-tree-preserved
append_uses-loop-tree-preserved t c =
    step_printed (λ x. spaced (req_tokens (reqs (req_of x ∷ [])))) (λ xs. spaced (req_tokens (reqs (view_of xs)))) (λ x xs. req_first (req_of x) (view_of xs))
    c.deref-tree-items.result.now c.loop-tree.tree-index c.tree-item.result c.loop-tree.text c.append_use.new.text
    (c.args.text.now ++ spaced (req_tokens (reqs c.args.items.now))) c.loop-tree-test.true c.tree-item.is c.loop-tree.invariant c.in_ok-append_use.ensures
