use Rattle.gv_query.proofs.Backed.{are_backed, is_so}
use Rattle.gv_query.proofs.laws.backing_law.Goals as goal

pub returns-clause-so : goal.returns-clause-so
returns-clause-so c = is_so c.backed_law.ensures

pub returns-clause-written : goal.returns-clause-written
returns-clause-written c = are_backed
