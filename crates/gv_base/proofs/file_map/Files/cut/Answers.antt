use Rattle.std.proofs.Common.{ap, ◌∙◌}
use Rattle.std.specs.FinMap.{remove}
use Rattle.gv_base.proofs.ByteMaps.{map_of-remove_entry}
use Rattle.gv_base.proofs.file_map.Files.cut.Goals as goal

pub returns : goal.returns
returns c =
    map_of-remove_entry c.self.inside.map.entries c.remove.new.self.entries c.args.path.now c.remove.ensures.entries c.remove.ensures.updates.1
    ∙ ap (λ m. remove m c.args.path.now) c.self.view_is
