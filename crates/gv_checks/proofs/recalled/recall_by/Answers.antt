use Rattle.std.proofs.Common.{refl}
use Rattle.gv_checks.specs.Queries.{queries}
use Rattle.gv_checks.proofs.AllLemmas.{counted_over, recalled_over, stops_over}
use Rattle.gv_checks.proofs.recalled.recall_by.Goals as goal

pub returns-in-Err-clause-recalls : goal.returns-in-Err-clause-recalls
returns-in-Err-clause-recalls g c =
    c.fault_behind.ensures c.args.certs.now (queries c.args.options.now c.args.repo.now)
    (stops_over c.in_ok-walk.walk c.args.options.now c.args.repo.now c.in_ok-walk.ensures 0 c.args.certs.now c.in-Err.field-0.behind c.in-Err.field-0.fault c.in-Err.ensures.stopped)

pub returns-clause-recalls : goal.returns-clause-recalls
returns-clause-recalls g c =
    recalled_over c.told_law.ensures c.in_ok-walk.walk c.args.options.now c.args.repo.now c.in_ok-walk.ensures 0 c.args.certs.now c.args.steps.now c.judge.new.steps c.in-Ok.answers c.in-Ok.answers.plain c.in-Ok.ensures.plain c.in-Ok.ensures.answers
    refl _ c.in_ok-reports.ensures refl refl

pub returns-in-Err-clause-few : goal.returns-in-Err-clause-few
returns-in-Err-clause-few g c = counted_over c.in_ok-walk.walk c.args.options.now c.args.repo.now c.in_ok-walk.ensures c.args.steps.now c.judge.new.steps c.judge.ensures.few

pub returns-in_err-reports-clause-few : goal.returns-in_err-reports-clause-few
returns-in_err-reports-clause-few g c = counted_over c.in_ok-walk.walk c.args.options.now c.args.repo.now c.in_ok-walk.ensures c.args.steps.now c.judge.new.steps c.judge.ensures.few

pub returns-clause-few : goal.returns-clause-few
returns-clause-few g c = counted_over c.in_ok-walk.walk c.args.options.now c.args.repo.now c.in_ok-walk.ensures c.args.steps.now c.judge.new.steps c.judge.ensures.few
