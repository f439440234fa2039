use Rattle.gv_usedefaults.proofs.WalkLaw.{same_stack}
use Rattle.gv_usedefaults.proofs.laws.walk_law.Goals as goal

pub returns : goal.returns
returns c = same_stack c.stack_law.ensures.below
