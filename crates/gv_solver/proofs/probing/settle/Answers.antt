use Rattle.gv_solver.proofs.Grow.{settled}
use Rattle.gv_solver.proofs.probing.settle.Goals as goal

pub returns : goal.returns
returns c = settled c.args.clauses.now c.args.trail.now c.propagate.new.self c.propagate.result c.propagate.ensures.over c.propagate.ensures.adds c.propagate.ensures.told
