use Rattle.std.proofs.Common.{◌≡◌, ◌++◌, drop}
use Rattle.gv_expr.specs.Dep.{deps}
use Rattle.gv_expr.specs.DepView.{view_of}
use Rattle.gv_plain.specs.Plain.{nowhere_in}
use Rattle.gv_plain.proofs.nonexistent.+atoms.Given as goal

abbrev pub invariant-add_deps-loop-tree : goal.invariant-add_deps-loop-tree
invariant-add_deps-loop-tree l = l.reports ++ nowhere_in l.pkgs l.pkg l.class (deps (view_of (drop l.tree-index l.tree-items))) ≡ l.initial.reports ++ nowhere_in l.pkgs l.pkg l.class (deps l.items)
