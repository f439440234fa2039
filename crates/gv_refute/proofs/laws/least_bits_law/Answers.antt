use Rattle.std.proofs.Common.{◌*◌}
use Rattle.gv_refute.proofs.Truths.{log_true}
use Rattle.gv_refute.proofs.LeastBits.{lesser, none_lesser}
use Rattle.gv_refute.proofs.laws.least_bits_law.Goals as goal

pub returns-clause-lesser : goal.returns-clause-lesser
returns-clause-lesser c = lesser

pub returns-clause-least : goal.returns-clause-least
returns-clause-least c f log bits other v valid proves all n same = none_lesser v log bits other (log_true v (2 * f.variables) f.clauses log 0 valid all) proves same
