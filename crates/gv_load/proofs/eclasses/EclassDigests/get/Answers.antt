use Rattle.std.proofs.Common.{ap, sym, ◌∙◌}
use Rattle.std.specs.FinMap.{get}
use Rattle.gv_load.proofs.eclasses.EclassDigests.get.Goals as goal

pub returns-in-Some : goal.returns-in-Some
returns-in-Some c =
    c.in-Some.ensures.value
    ∙ sym (c.map_law.ensures.get c.self.inside.map.entries c.args.name.now)
    ∙ ap (λ m. get m c.args.name.now) c.self.view_is

pub returns-in-None : goal.returns-in-None
returns-in-None c =
    c.in-None.ensures.value
    ∙ sym (c.map_law.ensures.get c.self.inside.map.entries c.args.name.now)
    ∙ ap (λ m. get m c.args.name.now) c.self.view_is
