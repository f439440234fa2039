use Rattle.gv_solver.proofs.Count.{kept_bound, kept_fewer}
use Rattle.gv_solver.proofs.laws.kept_bound_law.Goals as goal

pub returns-clause-apart : goal.returns-clause-apart
returns-clause-apart c = kept_bound

pub returns-clause-kept : goal.returns-clause-kept
returns-clause-kept c = kept_fewer
