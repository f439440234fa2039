use Rattle.gv_entry.proofs.TabCuts.{no_tab, tab_there}
use Rattle.gv_entry.proofs.digests.divide.Goals as goal

pub returns-in-Some : goal.returns-in-Some
returns-in-Some c = tab_there c.args.bytes.now c.in-Some.at c.in-Some.ensures

pub returns-in-None : goal.returns-in-None
returns-in-None c = no_tab c.args.bytes.now c.in-None.ensures
