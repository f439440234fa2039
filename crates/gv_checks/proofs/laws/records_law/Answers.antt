use Rattle.gv_checks.proofs.RecordsLaw.{each_has}
use Rattle.gv_checks.proofs.laws.records_law.Goals as goal

pub returns : goal.returns
returns c = each_has c.circuit_law.ensures
