use Rattle.gv_base.proofs.TextOrder as laws
use Rattle.gv_base.proofs.laws.in_order_law.Goals as goal

pub returns : goal.returns
returns c = laws.in_order_law
