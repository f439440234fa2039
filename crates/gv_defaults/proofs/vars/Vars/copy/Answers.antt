use Rattle.std.proofs.Common.{map, ap, ◌∙◌}
use Rattle.std.specs.FinMap.{empty}
use Rattle.gv_base.specs.ByteMap.{put_each, seen_entry}
use Rattle.gv_defaults.specs.Settings.{VarMap}
use Rattle.gv_defaults.proofs.vars.Vars.copy.Goals as goal

pub loop-name-init : goal.loop-name-init
loop-name-init c =
    let none : VarMap = empty in
    rw c.within-vars.ensures
    (ap (λ es. put_each none (map seen_entry es)) (c.into_iter-name-iterator.ensures.into_iter_gives ∙ c.iter-name-items.ensures.rest)
    ∙ c.map_law.ensures.again c.self.inside.map.entries c.iter-name-items.ensures.ordered
    ∙ c.self.view_is)
