use Rattle.gv_reload.proofs.EntriesPass.{entries_pass}
use Rattle.gv_reload.proofs.laws.entries_pass_law.Goals as goal

pub returns : goal.returns
returns c = entries_pass c.in_order_law.ensures c.split_pf_law.ensures
