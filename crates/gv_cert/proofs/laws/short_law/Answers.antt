use Rattle.gv_cert.proofs.ShortLaw.{short_law}
use Rattle.gv_cert.proofs.laws.short_law.Goals as goal

pub returns : goal.returns
returns c = short_law
