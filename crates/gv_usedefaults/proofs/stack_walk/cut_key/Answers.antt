use Rattle.gv_usedefaults.proofs.Sets.{cut}
use Rattle.gv_usedefaults.proofs.stack_walk.cut_key.Goals as goal

pub returns : goal.returns
returns c other = cut c.args.set.now.keys c.remove.new.self.keys c.args.text.now other (c.remove.ensures.updates.0 other)
