use Rattle.std.proofs.Common.{◌≡◌, ◌++◌, drop}
use Rattle.gv_expr.specs.Required.{reqs}
use Rattle.gv_expr.specs.RequiredView.{view_of}
use Rattle.gv_expr.specs.RequiredGrammar.{req_tokens}
use Rattle.gv_expr.specs.Spaced.{spaced}
use Rattle.gv_expr.proofs.printing.+uses.Given as goal

abbrev pub invariant-append_uses-loop-tree : goal.invariant-append_uses-loop-tree
invariant-append_uses-loop-tree l = l.text ++ spaced (req_tokens (reqs (view_of (drop l.tree-index l.tree-items)))) ≡ l.initial.text ++ spaced (req_tokens (reqs l.items))
