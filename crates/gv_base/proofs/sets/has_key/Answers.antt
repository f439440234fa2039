use Rattle.std.proofs.Common.{◌∙◌}
use Rattle.gv_base.proofs.SetLemmas.{has_key}
use Rattle.gv_base.proofs.sets.has_key.Goals as goal

pub returns : goal.returns
returns c = c.contains.ensures ∙ has_key c.args.set.now.keys c.args.text.now
