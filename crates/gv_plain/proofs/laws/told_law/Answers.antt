use Rattle.gv_plain.proofs.PlainLemmas.{told_law}
use Rattle.gv_plain.proofs.laws.told_law.Goals as goal

pub returns : goal.returns
returns c = told_law
