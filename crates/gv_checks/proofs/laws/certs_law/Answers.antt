use Rattle.gv_checks.proofs.RecordsLaw.{all_have, is_backed}
use Rattle.gv_checks.proofs.laws.certs_law.Goals as goal

pub returns-clause-have : goal.returns-clause-have
returns-clause-have c = all_have c.circuit_law.ensures

pub returns-clause-backed : goal.returns-clause-backed
returns-clause-backed c = is_backed
