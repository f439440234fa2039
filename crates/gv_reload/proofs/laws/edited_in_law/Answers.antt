use Rattle.gv_reload.proofs.EditedIn.{none_edited}
use Rattle.gv_reload.proofs.laws.edited_in_law.Goals as goal

pub returns : goal.returns
returns c = none_edited
