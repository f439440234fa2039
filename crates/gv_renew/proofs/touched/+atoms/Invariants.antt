use Rattle.std.proofs.Common.{◌≡◌, drop}
use Rattle.std.specs.List.{list_any}
use Rattle.gv_expr.specs.Dep.{deps}
use Rattle.gv_expr.specs.DepView.{view_of}
use Rattle.gv_expr.specs.Mentions.{wanted_atoms}
use Rattle.gv_renew.specs.Renewal.{is_wanted}
use Rattle.gv_renew.proofs.touched.+atoms.Given as goal

abbrev pub invariant-deps_mention-loop-tree : goal.invariant-deps_mention-loop-tree
invariant-deps_mention-loop-tree l = list_any (is_wanted l.edits) (wanted_atoms (deps (view_of (drop l.tree-index l.tree-items)))) ≡ list_any (is_wanted l.edits) (wanted_atoms (deps l.items))
