use Rattle.gv_trail.specs.Entries.{assignment}
use Rattle.gv_trail.proofs.Derive.{trail_decides}
use Rattle.gv_trail.proofs.Entries.{value_none}
use Rattle.gv_trail.proofs.trail.Trail.decide.Goals as goal

pub assign-requires-clause-free : goal.assign-requires-clause-free
assign-requires-clause-free c = (value_none (assignment c.args.self.now) c.args.lit c.requires.unassigned).0

pub assign-requires-clause-other : goal.assign-requires-clause-other
assign-requires-clause-other c = (value_none (assignment c.args.self.now) c.args.lit c.requires.unassigned).1

pub returns-clause-over : goal.returns-clause-over
returns-clause-over c f h =
    let free = value_none (assignment c.args.self.now) c.args.lit c.requires.unassigned in
    trail_decides f c.args.self.now c.assign.new.self c.args.lit c.requires.range free.0 free.1 (rw c.next_level-level.ensures at c.assign.ensures) h
