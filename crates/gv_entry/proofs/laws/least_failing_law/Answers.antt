use Rattle.gv_entry.proofs.QueryLaw.{least_failing_is}
use Rattle.gv_entry.proofs.laws.least_failing_law.Goals as goal

pub returns : goal.returns
returns c = λ parent required class. least_failing_is c.bits_law.ensures c.failing_law.ensures c.least_law.ensures parent required class
