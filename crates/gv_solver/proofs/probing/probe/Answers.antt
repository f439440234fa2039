use Rattle.std.proofs.Common.{inl, inr}
use Rattle.gv_trail.specs.Entries.{assignment}
use Rattle.gv_solver.proofs.Grow.{within_self, all_off_more, open_at}
use Rattle.gv_solver.proofs.probing.probe.Goals as goal

pub returns-in-Conflict-clause-says : goal.returns-in-Conflict-clause-says
returns-in-Conflict-clause-says c =
    let set = c.args.set.now in
    record { among = c.settle.ensures.among set (c.rewind.ensures.among set); ends = inl c.in-Conflict.ensures.told }

pub set_off-requires-clause-few : goal.set_off-requires-clause-few
set_off-requires-clause-few c = rw (c.settle.ensures.variables, c.rewind.ensures.variables) c.requires.few

pub set_off-requires-clause-range : goal.set_off-requires-clause-range
set_off-requires-clause-range c = rw (c.settle.ensures.variables, c.rewind.ensures.variables) c.requires.range

pub returns-then-not-set_off-clause-says : goal.returns-then-not-set_off-clause-says
returns-then-not-set_off-clause-says c =
    let set = c.args.set.now in
    record {
      among = c.set_off.ensures.grows.among set (within_self set) (c.settle.ensures.among set (c.rewind.ensures.among set));
      ends = inr (c.set_off.ensures.on c.if-not-set_off.true);
    }

pub returns-then-not-set_off-clause-over : goal.returns-then-not-set_off-clause-over
returns-then-not-set_off-clause-over c = c.set_off.ensures.grows.over c.args.clauses.now c.settle.ensures.over

pub settle-requires-2 : goal.settle-requires-2
settle-requires-2 c = c.set_off.ensures.grows.over c.args.clauses.now c.settle.ensures.over

pub returns-in-Fixed-clause-says : goal.returns-in-Fixed-clause-says
returns-in-Fixed-clause-says c =
    open_at c.args.clauses.now c.args.set.now c.settle-2.new.trail c.settle-2.ensures.over
    (all_off_more (assignment c.set_off.new.trail) (assignment c.settle-2.new.trail) c.args.set.now c.settle-2.ensures.more (c.set_off.ensures.off c.if-not-set_off.false))
    c.in-Fixed.ensures.told

pub returns-in-Conflict-settle-clause-says : goal.returns-in-Conflict-settle-clause-says
returns-in-Conflict-settle-clause-says c =
    let set = c.args.set.now in
    record {
      among = c.settle-2.ensures.among set (c.set_off.ensures.grows.among set (within_self set) (c.settle.ensures.among set (c.rewind.ensures.among set)));
      ends = inl c.in-Conflict-settle.ensures.told;
    }
