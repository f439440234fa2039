use Rattle.std.proofs.Common.{◌∙◌, sym, arith}
use Rattle.gv_solver.proofs.Drop.{rising_range, rising_small}
use Rattle.gv_solver.proofs.Down.{ready_same}
use Rattle.gv_solver.proofs.probing.refute.Goals as goal

pub probe-requires-clause-few : goal.probe-requires-clause-few
probe-requires-clause-few c = rw c.requires.ready.over.variables c.requires.ready.few

pub probe-requires-clause-range : goal.probe-requires-clause-range
probe-requires-clause-range c = rising_range 0 c.args.inputs c.args.trail.now.variables c.args.set.now c.requires.rising (rw c.requires.ready.over.variables c.requires.ready.wide)

pub step_of-requires-clause-variables : goal.step_of-requires-clause-variables
step_of-requires-clause-variables c = c.probe.ensures.over.variables ∙ sym c.variables.ensures

pub step_of-requires-clause-range : goal.step_of-requires-clause-range
step_of-requires-clause-range c = rising_small 0 c.args.inputs c.args.set.now c.requires.rising (omega (arith, c.requires.ready.wide, c.requires.ready.few))

pub returns-clause-ready : goal.returns-clause-ready
returns-clause-ready c = ready_same c.args.clauses.now c.args.inputs c.args.trail.now c.probe.new.trail c.requires.ready c.probe.ensures.over

pub returns-clause-step_follows : goal.returns-clause-step_follows
returns-clause-step_follows c =
    rw c.variables.ensures at
    (c.step_of.ensures.step_follows c.args.clauses.now.clauses c.args.inputs c.requires.rising (rw c.variables.ensures c.requires.ready.wide) c.probe.ensures.over.derived c.in-Some.ensures.says)
