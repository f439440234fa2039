use Rattle.gv_lower.proofs.AssignmentLaw.{right_allowed, right_failing}
use Rattle.gv_lower.proofs.laws.lowering_law.Goals as goal

pub returns-clause-allowed : goal.returns-clause-allowed
returns-clause-allowed c = λ parent required on fit. right_allowed parent required on fit c.allowed_law.ensures

pub returns-clause-failing : goal.returns-clause-failing
returns-clause-failing c = λ parent required class on fit. right_failing parent required on fit c.failing_law.ensures class
