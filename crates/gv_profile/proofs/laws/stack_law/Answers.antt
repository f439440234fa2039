use Rattle.gv_profile.proofs.AppliedLaw.{applied}
use Rattle.gv_profile.proofs.BelowLaw.{line_below}
use Rattle.gv_profile.proofs.StackLaw.{line_stack}
use Rattle.gv_profile.proofs.laws.stack_law.Goals as goal

pub returns-clause-stack : goal.returns-clause-stack
returns-clause-stack c = line_stack

pub returns-clause-applied : goal.returns-clause-applied
returns-clause-applied c = applied

pub returns-clause-below : goal.returns-clause-below
returns-clause-below c = line_below
