use Rattle.gv_run.proofs.Overlaid.{unjudged}
use Rattle.gv_run.proofs.overlaying.judged.Goals as goal

pub returns-in-Err-clause-cause : goal.returns-in-Err-clause-cause
returns-in-Err-clause-cause g c =
    unjudged c.args.options.now c.args.given.now c.args.over.now c.packages_law.ensures.named c.requires.own c.in-Err.fault c.judge_refusal.result c.in-Err.ensures.judges c.judge_refusal.ensures
