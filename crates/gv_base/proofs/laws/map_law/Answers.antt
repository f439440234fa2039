use Rattle.gv_base.proofs.ByteMaps as laws
use Rattle.gv_base.proofs.laws.map_law.Goals as goal

pub returns : goal.returns
returns g c = laws.map_law
