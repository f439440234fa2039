use Rattle.gv_session.proofs.CauseLemmas.{unjudged}
use Rattle.gv_session.proofs.judging.judge_again.Goals as goal

pub returns-in-Err-clause-cause : goal.returns-in-Err-clause-cause
returns-in-Err-clause-cause g c whole part before =
    unjudged c.args.options.now c.args.loaded.repo whole c.in-Err.fault c.judge_fault.result part.but (c.in-Err.ensures.cause whole part before) c.judge_fault.ensures
