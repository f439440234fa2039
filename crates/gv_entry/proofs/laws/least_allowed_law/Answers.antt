use Rattle.gv_entry.proofs.QueryLaw.{least_allowed_is}
use Rattle.gv_entry.proofs.laws.least_allowed_law.Goals as goal

pub returns : goal.returns
returns c = λ parent required. least_allowed_is c.bits_law.ensures c.allowed_law.ensures c.least_law.ensures parent required
