use Rattle.std.proofs.Common.{map, ap, ◌∙◌}
use Rattle.gv_base.specs.ByteMap.{seen_entry}
use Rattle.std.specs.FinMap.{empty}
use Rattle.gv_base.specs.FileMap.{FileMap}
use Rattle.gv_base.proofs.ByteMaps.{put_each, put_each-map_of}
use Rattle.gv_base.proofs.file_map.Files.copy.Goals as goal

pub loop-path-init : goal.loop-path-init
loop-path-init c =
    let none : FileMap = empty in
    rw c.new-files.ensures
    (ap (λ es. put_each none (map seen_entry es)) (c.into_iter-path-iterator.ensures.into_iter_gives ∙ c.iter-path-items.ensures.rest)
    ∙ put_each-map_of c.self.inside.map.entries c.iter-path-items.ensures.ordered
    ∙ c.self.view_is)
