use Rattle.gv_reload.proofs.EntriesPass.{eclasses_fit_all}
use Rattle.gv_reload.proofs.laws.eclasses_fit_law.Goals as goal

pub returns : goal.returns
returns c = eclasses_fit_all
