use Rattle.std.proofs.Common.{◌≡◌, ◌++◌, drop, map}
use Rattle.gv_expr.specs.Dep.{deps}
use Rattle.gv_expr.specs.DepView.{view_of}
use Rattle.gv_expr.specs.Mentions.{wanted_atoms}
use Rattle.gv_renew.specs.Mentioned.{atom_number}
use Rattle.gv_renew.proofs.mentioned.+numbers.Given as goal

abbrev pub invariant-add_deps-loop-tree : goal.invariant-add_deps-loop-tree
invariant-add_deps-loop-tree l = l.numbers ++ map atom_number (wanted_atoms (deps (view_of (drop l.tree-index l.tree-items)))) ≡ l.initial.numbers ++ map atom_number (wanted_atoms (deps l.items))
