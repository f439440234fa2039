use Rattle.gv_cert.specs.declared.version.FileVersion.TheVariants.{Second}
use Rattle.gv_cert.proofs.Claims.{same_claim}
use Rattle.gv_cert.proofs.laws.answer_law.Goals as goal

pub returns : goal.returns
returns c = same_claim Second
