use Rattle.std.proofs.Common.{ap, ◌∙◌}
use Rattle.std.specs.FinMap.{insert}
use Rattle.gv_base.specs.ByteMap.{map_of}
use Rattle.gv_defaults.proofs.assigning.set_value.Goals as goal

pub returns : goal.returns
returns c =
    ap map_of c.in_ok-insert.ensures.entries
    ∙ c.map_law.ensures.insert c.args.values.now.entries c.in_ok-name.name c.args.value
    ∙ ap (λ k. insert (map_of c.args.values.now.entries) k c.args.value) c.in_ok-name.ensures.items
