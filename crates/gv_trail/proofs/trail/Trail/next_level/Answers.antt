use Rattle.std.proofs.Common.{◌*◌, length, arith}
use Rattle.gv_trail.specs.Cause.{entries_of}
use Rattle.gv_trail.proofs.Marks.{fresh_few}
use Rattle.gv_trail.proofs.Levels.{levels-most}
use Rattle.gv_trail.proofs.trail.Trail.next_level.Goals as goal

pub overflow_add-result : goal.overflow_add-result
overflow_add-result c =
    let few = fresh_few (2 * length c.self.inside.causes.items) (entries_of c.self.inside.causes.items c.self.inside.lits.items) c.self.invariant.fresh in
    let most = levels-most 0 c.self.inside.level (entries_of c.self.inside.causes.items c.self.inside.lits.items) c.self.invariant.levels in
    omega (arith, few, most, c.self.invariant.few)
