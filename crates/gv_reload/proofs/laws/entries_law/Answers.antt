use Rattle.gv_reload.proofs.EntriesLaw.{entries}
use Rattle.gv_reload.proofs.laws.entries_law.Goals as goal

pub returns : goal.returns
returns c = entries c.in_order_law.ensures c.split_pf_law.ensures
