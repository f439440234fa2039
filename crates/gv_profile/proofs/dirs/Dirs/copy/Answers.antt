use Rattle.std.proofs.Common.{map, ap, ◌∙◌}
use Rattle.std.specs.FinMap.{empty}
use Rattle.gv_base.specs.ByteMap.{put_each, seen_entry}
use Rattle.gv_profile.specs.Dirs.{DirMap}
use Rattle.gv_profile.proofs.dirs.Dirs.copy.Goals as goal

pub loop-dir-init : goal.loop-dir-init
loop-dir-init c =
    let none : DirMap = empty in
    rw c.new-dirs.ensures
    (ap (λ es. put_each none (map seen_entry es)) (c.into_iter-dir-iterator.ensures.into_iter_gives ∙ c.iter-dir-items.ensures.rest)
    ∙ c.map_law.ensures.again c.self.inside.map.entries c.iter-dir-items.ensures.ordered
    ∙ c.self.view_is)
