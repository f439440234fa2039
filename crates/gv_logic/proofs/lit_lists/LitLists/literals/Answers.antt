use Rattle.std.proofs.Common.{◌∙◌}
use Rattle.gv_logic.proofs.LitLists.{whole_count}
use Rattle.gv_logic.proofs.lit_lists.LitLists.literals.Goals as goal

pub returns : goal.returns
returns c = c.len.ensures ∙ c.self.inside.lits.ok.0 ∙ whole_count c.self.inside.ends.items c.self.inside.lits.items c.args.self.now c.self.invariant c.self.view_is
