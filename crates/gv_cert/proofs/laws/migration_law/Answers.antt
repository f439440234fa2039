use Rattle.gv_cert.proofs.Turning.{kept}
use Rattle.gv_cert.proofs.laws.migration_law.Goals as goal

pub returns : goal.returns
returns c g old new claim w turned = kept c.circuit_law.ensures g w old new claim turned
