use Rattle.gv_renew.proofs.RenewLemmas.{refused_result, renewed_result}
use Rattle.gv_renew.proofs.renewing.renew.Goals as goal

pub returns-clause-renewed : goal.returns-clause-renewed
returns-clause-renewed g c = λ whole part were.
    renewed_result c.args.options.now c.args.edits.now c.args.repo.now whole c.args.before c.parts_law.ensures c.renewed_law.ensures c.requires.order c.requires.bodies part were c.args.steps.now c.renew_here.new.steps c.renew_here.result c.renew_here.ensures.renewed

pub returns-clause-cause : goal.returns-clause-cause
returns-clause-cause g c = λ whole part were.
    refused_result c.args.options.now c.args.edits.now c.args.repo.now whole c.args.before c.parts_law.ensures c.renewed_law.ensures c.requires.order c.requires.bodies part were c.args.options.now.budget c.renew_here.result c.renew_here.ensures.first
