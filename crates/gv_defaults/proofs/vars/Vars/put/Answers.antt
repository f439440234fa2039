use Rattle.std.proofs.Common.{ap, ◌∙◌}
use Rattle.std.specs.FinMap.{insert}
use Rattle.gv_base.specs.ByteMap.{map_of}
use Rattle.gv_defaults.proofs.vars.Vars.put.Goals as goal

pub returns-clause-ok : goal.returns-clause-ok
returns-clause-ok c =
    ap map_of c.in_ok-insert.ensures.entries
    ∙ c.map_law.ensures.insert c.self.inside.map.entries c.args.name c.args.setting
    ∙ ap (λ m. insert m c.args.name.items c.args.setting) c.self.view_is
