use Rattle.gv_renew.proofs.RenewLemmas.{counted_by}
use Rattle.gv_renew.proofs.renewing.renew_here.Goals as goal

pub returns-clause-few : goal.returns-clause-few
returns-clause-few g c = counted_by c.in_ok-walk.walk c.args.repo.now c.args.options.now c.in_ok-walk.ensures c.args.edits.now c.args.steps.now c.renew_touched.new.steps c.renew_touched.ensures.few
