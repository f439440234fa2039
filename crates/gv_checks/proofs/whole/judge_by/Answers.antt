use Rattle.std.proofs.Common.{refl}
use Rattle.gv_checks.specs.Queries.{queries}
use Rattle.gv_checks.proofs.AllLemmas.{counted_over, ends_over, first_refused, refused, stops_over}
use Rattle.gv_checks.proofs.whole.judge_by.Goals as goal

pub returns-in-Err-clause-judges : goal.returns-in-Err-clause-judges
returns-in-Err-clause-judges g c =
    refused c.args.options.now.budget c.args.certs.now (queries c.args.options.now c.args.repo.now) c.in-Err.field-0.behind c.in-Err.field-0.fault
    (stops_over c.in_ok-walk.walk c.args.options.now c.args.repo.now c.in_ok-walk.ensures c.args.options.now.budget c.args.certs.now c.in-Err.field-0.behind c.in-Err.field-0.fault c.in-Err.ensures.stopped)

pub returns-in-Err-clause-first : goal.returns-in-Err-clause-first
returns-in-Err-clause-first g c =
    first_refused c.args.options.now.budget c.args.certs.now (queries c.args.options.now c.args.repo.now) c.in-Err.field-0.behind c.in-Err.field-0.fault
    (stops_over c.in_ok-walk.walk c.args.options.now c.args.repo.now c.in_ok-walk.ensures c.args.options.now.budget c.args.certs.now c.in-Err.field-0.behind c.in-Err.field-0.fault c.in-Err.ensures.stopped)

pub returns-clause-judges : goal.returns-clause-judges
returns-clause-judges g c =
    ends_over c.told_law.ensures c.in_ok-walk.walk c.args.options.now c.args.repo.now c.in_ok-walk.ensures c.args.options.now.budget c.args.certs.now c.args.steps.now c.judge.new.steps c.in-Ok.answers c.in-Ok.answers.plain c.in-Ok.ensures.plain c.in-Ok.ensures.answers
    refl _ c.in_ok-reports.ensures refl refl

pub returns-in-Err-clause-few : goal.returns-in-Err-clause-few
returns-in-Err-clause-few g c = counted_over c.in_ok-walk.walk c.args.options.now c.args.repo.now c.in_ok-walk.ensures c.args.steps.now c.judge.new.steps c.judge.ensures.few

pub returns-in_err-reports-clause-few : goal.returns-in_err-reports-clause-few
returns-in_err-reports-clause-few g c = counted_over c.in_ok-walk.walk c.args.options.now c.args.repo.now c.in_ok-walk.ensures c.args.steps.now c.judge.new.steps c.judge.ensures.few

pub returns-clause-few : goal.returns-clause-few
returns-clause-few g c = counted_over c.in_ok-walk.walk c.args.options.now c.args.repo.now c.in_ok-walk.ensures c.args.steps.now c.judge.new.steps c.judge.ensures.few
