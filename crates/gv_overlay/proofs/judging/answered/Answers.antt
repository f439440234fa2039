use Rattle.gv_overlay.proofs.OwnLemmas.{counted_by}
use Rattle.gv_overlay.proofs.judging.answered.Goals as goal

pub returns-in-Ok-clause-few : goal.returns-in-Ok-clause-few
returns-in-Ok-clause-few g c = counted_by c.packages_law.ensures.chosen c.args.own c.args.walk.now.options c.args.walk.now.repo c.args.steps.now c.judge.new.steps c.judge.ensures.few
