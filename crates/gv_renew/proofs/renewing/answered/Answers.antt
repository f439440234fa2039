use Rattle.std.proofs.Common.{subst}
use Rattle.std.specs.Prelude.{[]}
use Rattle.gv_checks.specs.Chosen.{chosen}
use Rattle.gv_checks.specs.Limits.{RefusesFirst}
use Rattle.gv_checks.specs.Queries.{queries}
use Rattle.gv_renew.proofs.DueLemmas.{answered_all, refused_due}
use Rattle.gv_renew.proofs.renewing.answered.Goals as goal

pub returns-in-Err-clause-first : goal.returns-in-Err-clause-first
returns-in-Err-clause-first g c =
    subst (λ o. RefusesFirst o.budget [] (chosen c.args.due.now (queries c.args.walk.now.options c.args.walk.now.repo)) c.in-Err.field-0.fault) c.options-options.ensures
    (refused_due c.options-options.result.now.budget c.new-none.result (chosen c.args.due.now (queries c.args.walk.now.options c.args.walk.now.repo)) c.in-Err.field-0.fault c.new-none.ensures
    (c.walk_law.ensures.refuses c.options-options.result.now.budget c.new-none.result (chosen c.args.due.now (queries c.args.walk.now.options c.args.walk.now.repo)) c.in-Err.field-0 c.in-Err.ensures.stopped))

pub returns-clause-answers : goal.returns-clause-answers
returns-clause-answers g c =
    let budget = c.options-options.result.now.budget in
    let qs = chosen c.args.due.now (queries c.args.walk.now.options c.args.walk.now.repo) in
    let are = c.in-Ok.ensures.answers in
    answered_all budget c.new-none.result qs c.args.steps.now c.judge.new.steps c.in-Ok.answers are
    (c.walk_law.ensures.lowered budget c.new-none.result qs c.args.steps.now c.judge.new.steps c.in-Ok.answers are)
    (c.walk_law.ensures.solved budget c.new-none.result qs c.args.steps.now c.judge.new.steps c.in-Ok.answers are)

pub returns-in-Err-clause-few : goal.returns-in-Err-clause-few
returns-in-Err-clause-few g c = c.judge.ensures.few

pub returns-clause-few : goal.returns-clause-few
returns-clause-few g c = c.judge.ensures.few
