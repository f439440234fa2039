use Rattle.gv_verify.proofs.AcceptedLaw.{is_accepted}
use Rattle.gv_verify.proofs.laws.accepted_law.Goals as goal

pub returns : goal.returns
returns c = is_accepted c.records_law.ensures c.certs_law.ensures.backed
