use Rattle.std.proofs.Common.{length, ap, sym, ◌∙◌}
use Rattle.std.proofs.lemmas.List.{length-map}
use Rattle.gv_load.specs.Repository.{body_of, in_package_order, members_in, pkg_of}
use Rattle.gv_load.proofs.given.given_with.Goals as goal

pub returns-clause-bodies : goal.returns-clause-bodies
returns-clause-bodies c =
    let members = in_package_order (members_in c.args.kepts) in
    ap length c.in_ok-packages.ensures.bodies ∙ length-map members body_of ∙ sym (length-map members pkg_of) ∙ sym (ap length c.in_ok-packages.ensures.pkgs)
