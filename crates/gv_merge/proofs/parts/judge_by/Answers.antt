use Rattle.gv_merge.proofs.PartLemmas.{part_counted}
use Rattle.gv_merge.proofs.parts.judge_by.Goals as goal

pub returns-in-Ok-clause-few : goal.returns-in-Ok-clause-few
returns-in-Ok-clause-few g c =
    part_counted c.in_ok-walk.walk c.args.options.now c.args.repo.now c.in_ok-walk.ensures c.args.part c.args.parts c.args.steps.now c.judge.new.steps c.judge.ensures.few

pub returns-clause-few : goal.returns-clause-few
returns-clause-few g c =
    part_counted c.in_ok-walk.walk c.args.options.now c.args.repo.now c.in_ok-walk.ensures c.args.part c.args.parts c.args.steps.now c.judge.new.steps c.judge.ensures.few
