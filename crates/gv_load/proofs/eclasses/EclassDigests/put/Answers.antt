use Rattle.std.proofs.Common.{ap, ◌∙◌}
use Rattle.std.specs.FinMap.{insert}
use Rattle.gv_base.specs.ByteMap.{map_of}
use Rattle.gv_load.proofs.eclasses.EclassDigests.put.Goals as goal

pub returns-clause-ok : goal.returns-clause-ok
returns-clause-ok c =
    ap map_of c.in_ok-insert.ensures.entries
    ∙ c.map_law.ensures.insert c.self.inside.map.entries c.in_ok-key.key c.args.digest
    ∙ ap (λ m. insert m c.in_ok-key.key.items c.args.digest) c.self.view_is
    ∙ ap (λ k. insert c.args.self.now k c.args.digest) (c.in_ok-key.ensures.items ∙ c.bytes.ensures)
