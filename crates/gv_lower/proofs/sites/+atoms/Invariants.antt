use Rattle.std.proofs.Common.{◌≡◌, ◌++◌, drop, map}
use Rattle.gv_expr.specs.Dep.{deps}
use Rattle.gv_expr.specs.DepView.{view_of}
use Rattle.gv_expr.specs.Mentions.{wanted_atoms}
use Rattle.gv_lower.specs.Sites.{site_of}
use Rattle.gv_lower.proofs.sites.+atoms.Given as goal

abbrev pub invariant-add_sites-loop-tree : goal.invariant-add_sites-loop-tree
invariant-add_sites-loop-tree l =
    l.atoms.items ++ map (site_of l.ruled l.pkgs) (wanted_atoms (deps (view_of (drop l.tree-index l.tree-items)))) ≡ l.initial.atoms.items ++ map (site_of l.ruled l.pkgs) (wanted_atoms (deps l.items))
