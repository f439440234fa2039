use Rattle.std.proofs.Common.{Some, ap, sym, ◌∙◌}
use Rattle.std.specs.FinMap.{get}
use Rattle.gv_base.proofs.ByteMaps.{get-map_of}
use Rattle.gv_base.proofs.file_map.Files.get.Goals as goal

pub returns-in-Some : goal.returns-in-Some
returns-in-Some c =
    ap Some c.bytes.ensures
    ∙ c.in-Some.ensures.value
    ∙ sym (get-map_of c.self.inside.map.entries c.args.path.now)
    ∙ ap (λ m. get m c.args.path.now) c.self.view_is

pub returns-in-None : goal.returns-in-None
returns-in-None c =
    c.in-None.ensures.value
    ∙ sym (get-map_of c.self.inside.map.entries c.args.path.now)
    ∙ ap (λ m. get m c.args.path.now) c.self.view_is
