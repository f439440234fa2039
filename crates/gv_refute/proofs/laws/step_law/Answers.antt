use Rattle.std.proofs.Common.{◌*◌}
use Rattle.gv_refute.proofs.Truths.{log_true, none_true_at}
use Rattle.gv_refute.proofs.laws.step_law.Goals as goal

pub returns-clause-steps : goal.returns-clause-steps
returns-clause-steps c f log v valid all = log_true v (2 * f.variables) f.clauses log 0 valid all

pub returns-clause-none : goal.returns-clause-none
returns-clause-none c f log v valid proves all = none_true_at v log (log_true v (2 * f.variables) f.clauses log 0 valid all) proves
