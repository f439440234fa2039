use Rattle.gv_lower.proofs.SameQueries.{same_allowed, same_failing}
use Rattle.gv_lower.proofs.keys.key_law.Goals as goal

pub returns-clause-allowed : goal.returns-clause-allowed
returns-clause-allowed c = λ one other required eapi plus same. same_allowed one other eapi plus required same

pub returns-clause-failing : goal.returns-clause-failing
returns-clause-failing c = λ one other required class eapi plus same. same_failing one other eapi plus required class same
