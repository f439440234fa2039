use Rattle.gv_solver.proofs.Grow.{rewound}
use Rattle.gv_solver.proofs.probing.rewind.Goals as goal

pub returns : goal.returns
returns c =
    rewound c.args.clauses.now c.args.trail.now c.back_to.new.self c.requires (c.back_to.ensures.over c.args.clauses.now c.requires) c.back_to.ensures.variables c.back_to.ensures.entries c.back_to.ensures.level
