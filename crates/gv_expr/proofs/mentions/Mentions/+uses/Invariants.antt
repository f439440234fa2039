use Rattle.std.proofs.Common.{◌≡◌, ◌++◌, drop}
use Rattle.gv_expr.specs.Required.{reqs}
use Rattle.gv_expr.specs.RequiredView.{view_of}
use Rattle.gv_expr.specs.Mentions.{req_mentions}
use Rattle.gv_expr.proofs.mentions.Mentions.+uses.Given as goal

abbrev pub invariant-add_required-loop-tree : goal.invariant-add_required-loop-tree
invariant-add_required-loop-tree l = l.self ++ req_mentions (reqs (view_of (drop l.tree-index l.tree-items))) ≡ l.initial.self ++ req_mentions (reqs l.items)
