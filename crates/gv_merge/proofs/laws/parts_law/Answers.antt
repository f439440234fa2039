use Rattle.gv_merge.proofs.PartLemmas.{in_its_part, one_of_parts}
use Rattle.gv_merge.proofs.laws.parts_law.Goals as goal

pub returns-clause-one : goal.returns-clause-one
returns-clause-one c = one_of_parts

pub returns-clause-its : goal.returns-clause-its
returns-clause-its c = in_its_part
