use Rattle.std.proofs.Common.{◌∙◌}
use Rattle.gv_profcheck.proofs.Better.{first_named}
use Rattle.gv_profcheck.proofs.versions.first_better.Goals as goal

pub returns : goal.returns
returns c =
    c.first_at.ensures
    ∙ first_named c.args.pkg.now c.items.result.now c.args.pkgs.now c.places_of.result.now c.bytes.result.now c.bytes-2.result.now c.items.ensures c.bytes.ensures c.bytes-2.ensures c.places_of.ensures.items
