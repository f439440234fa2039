use Rattle.gv_encode.proofs.Values.{one}
use Rattle.gv_encode.proofs.Forced.{only}
use Rattle.gv_encode.proofs.Roots.{root}
use Rattle.gv_encode.proofs.laws.encoding_law.Goals as goal

pub returns-clause-one : goal.returns-clause-one
returns-clause-one c = one

pub returns-clause-only : goal.returns-clause-only
returns-clause-only c = only

pub returns-clause-root : goal.returns-clause-root
returns-clause-root c = root
