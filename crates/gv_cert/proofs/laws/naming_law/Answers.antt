use Rattle.gv_cert.proofs.Naming.{claim_named, answer_named}
use Rattle.gv_cert.proofs.laws.naming_law.Goals as goal

pub returns-clause-backed : goal.returns-clause-backed
returns-clause-backed c = claim_named

pub returns-clause-read : goal.returns-clause-read
returns-clause-read c = answer_named
