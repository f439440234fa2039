use Rattle.gv_checks.proofs.AllLemmas.{in_parts}
use Rattle.gv_checks.proofs.laws.parts_law.Goals as goal

pub returns : goal.returns
returns c = in_parts c.told_law.ensures
