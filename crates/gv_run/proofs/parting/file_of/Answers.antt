use Rattle.gv_run.proofs.Parted.{part_unjudged}
use Rattle.gv_run.proofs.parting.file_of.Goals as goal

pub returns-in-Err-clause-cause : goal.returns-in-Err-clause-cause
returns-in-Err-clause-cause g c =
    part_unjudged c.args.options.now c.args.given.now c.args.repo.now c.args.share.now.part c.args.share.now.parts c.names_law.ensures.each c.requires.own c.in-Err.fault c.judge_refusal.result c.in-Err.ensures.judges
    c.judge_refusal.ensures
