use Rattle.gv_solver.proofs.rounds.point_of.Goals as goal

pub resting-requires : goal.resting-requires
resting-requires c = c.requires.over.variables
