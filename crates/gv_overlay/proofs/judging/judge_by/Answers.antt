use Rattle.gv_overlay.proofs.OwnLemmas.{own_counted}
use Rattle.gv_overlay.proofs.judging.judge_by.Goals as goal

pub returns-in-Err-clause-few : goal.returns-in-Err-clause-few
returns-in-Err-clause-few g c = own_counted c.in_ok-walk.walk c.args.options.now c.args.over.now c.in_ok-walk.ensures c.args.steps.now c.answered.new.steps c.answered.ensures.few

pub returns-in_err-reports-clause-few : goal.returns-in_err-reports-clause-few
returns-in_err-reports-clause-few g c = own_counted c.in_ok-walk.walk c.args.options.now c.args.over.now c.in_ok-walk.ensures c.args.steps.now c.answered.new.steps c.answered.ensures.few

pub returns-clause-few : goal.returns-clause-few
returns-clause-few g c = own_counted c.in_ok-walk.walk c.args.options.now c.args.over.now c.in_ok-walk.ensures c.args.steps.now c.answered.new.steps c.answered.ensures.few
