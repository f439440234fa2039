use Rattle.gv_checks.proofs.AnswersLaw.{least_of_all}
use Rattle.gv_checks.proofs.laws.answers_law.Goals as goal

pub returns : goal.returns
returns c = least_of_all c.least_allowed_law.ensures c.least_failing_law.ensures
