use Rattle.std.proofs.Common.{[], ◌∷◌, ap}
use Rattle.gv_expr.specs.Dep.{deps}
use Rattle.gv_expr.specs.DepView.{dep_of}
use Rattle.gv_expr.specs.Mentions.{wanted_atoms}
use Rattle.gv_lower.specs.Sites.{site_of}
use Rattle.gv_lower.proofs.SitesMade.{sites_group, sites_next}
use Rattle.gv_lower.proofs.sites.+atoms.Goals as goal

pub add_sites-loop-tree-preserved : goal.add_sites-loop-tree-preserved
add_sites-loop-tree-preserved t c =
    sites_next (site_of c.args.ruled.now c.args.pkgs.now) c.deref-tree-items.result.now c.loop-tree.tree-index c.tree-item.result c.loop-tree.atoms.items c.add_sites_of.new.atoms.items _
    c.loop-tree-test.true c.tree-item.is c.loop-tree.invariant c.in_ok-add_sites_of.ensures

pub add_sites_of-returns-in-If : goal.add_sites_of-returns-in-If
add_sites_of-returns-in-If t c =
    sites_group c.add_sites.result (site_of c.args.ruled.now c.args.pkgs.now) c.args.tree.now (wanted_atoms (deps c.in-If.items)) c.args.atoms.now.items c.add_sites.new.atoms.items
    (ap (λ tree. wanted_atoms (deps (dep_of tree ∷ []))) c.in-If.is) c.add_sites.ensures
