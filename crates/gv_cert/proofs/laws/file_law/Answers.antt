use Rattle.gv_cert.proofs.Files.{file_one, file_back}
use Rattle.gv_cert.proofs.laws.file_law.Goals as goal

pub returns-clause-one : goal.returns-clause-one
returns-clause-one c = file_one c.circuit_law.ensures

pub returns-clause-back : goal.returns-clause-back
returns-clause-back c = file_back
