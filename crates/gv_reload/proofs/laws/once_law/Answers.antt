use Rattle.gv_reload.proofs.OnceLaw.{read_once}
use Rattle.gv_reload.proofs.laws.once_law.Goals as goal

pub returns : goal.returns
returns c = read_once c.in_order_law.ensures c.split_pf_law.ensures
