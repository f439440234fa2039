use Rattle.gv_checks.proofs.LowerLemmas.{allowed_lowered, failing_lowered}
use Rattle.gv_checks.proofs.lowering.lower_query.Goals as goal

pub returns-in-None-clause-lowered : goal.returns-in-None-clause-lowered
returns-in-None-clause-lowered g c =
    allowed_lowered _ _ c.args.candidates.now c.args.judged.now c.requires.around c.args.class c.requires.has c.lower_allowed.result c.in-None.ensures c.lower_allowed.ensures.lowered

pub returns-in-Some-clause-lowered : goal.returns-in-Some-clause-lowered
returns-in-Some-clause-lowered g c =
    failing_lowered _ _ c.args.candidates.now c.args.judged.now c.requires.around c.args.class c.requires.has c.lower_failing.result _ c.in-Some.ensures c.lower_failing.ensures.lowered
