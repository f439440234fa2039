use Rattle.std.proofs.Common.{ap, ◌∙◌, map}
use Rattle.gv_load.specs.Repository.{body_of, pkg_of}
use Rattle.gv_load.specs.MemberLemmas.{in_order_are, in_package_order_are}
use Rattle.gv_load.proofs.members.packages_in.Goals as goal

pub returns-clause-pkgs : goal.returns-clause-pkgs
returns-clause-pkgs c = c.in_ok-packages.ensures.pkgs ∙ ap (map pkg_of) (c.in_ok-members.ensures ∙ in_order_are c.args.kepts)

pub returns-clause-bodies : goal.returns-clause-bodies
returns-clause-bodies c = c.in_ok-packages.ensures.bodies ∙ ap (map body_of) (c.in_ok-members.ensures ∙ in_order_are c.args.kepts)

pub returns-clause-order : goal.returns-clause-order
returns-clause-order c = in_package_order_are c.args.kepts _ (c.in_ok-packages.ensures.pkgs ∙ ap (map pkg_of) (c.in_ok-members.ensures ∙ in_order_are c.args.kepts))
