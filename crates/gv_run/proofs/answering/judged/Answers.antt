use Rattle.gv_run.proofs.AnswerLemmas.{unjudged}
use Rattle.gv_run.proofs.answering.judged.Goals as goal

pub returns-in-Err-clause-cause : goal.returns-in-Err-clause-cause
returns-in-Err-clause-cause g c =
    unjudged c.args.options.now c.args.given.now c.args.repo.now c.names_law.ensures.each c.requires.own c.in-Err.fault c.judge_refusal.result c.in-Err.ensures.first c.judge_refusal.ensures
