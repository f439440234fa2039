use Rattle.gv_profile.proofs.FlagLaw.{last_decides, undone}
use Rattle.gv_profile.proofs.laws.flag_law.Goals as goal

pub returns-clause-last : goal.returns-clause-last
returns-clause-last c = last_decides

pub returns-clause-undone : goal.returns-clause-undone
returns-clause-undone c = undone
