use Rattle.std.proofs.Common.{arith}
use Rattle.gv_solver.proofs.Grow.{puts_one}
use Rattle.gv_solver.proofs.probing.put_off.Goals as goal

pub returns-in-None-clause-grows : goal.returns-in-None-clause-grows
returns-in-None-clause-grows c = (puts_one c.args.trail.now c.decide.new.self c.args.input (omega (arith, c.requires.range)) c.decide.ensures.variables c.decide.ensures.entries c.decide.ensures.over).0

pub returns-in-None-clause-off : goal.returns-in-None-clause-off
returns-in-None-clause-off c e = (puts_one c.args.trail.now c.decide.new.self c.args.input (omega (arith, c.requires.range)) c.decide.ensures.variables c.decide.ensures.entries c.decide.ensures.over).1
