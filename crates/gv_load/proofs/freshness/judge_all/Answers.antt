use Rattle.std.proofs.Common.{◌∙◌}
use Rattle.gv_load.proofs.JudgeLemmas.{same_all}
use Rattle.gv_load.proofs.freshness.judge_all.Goals as goal

pub returns-in-Ok-clause-there : goal.returns-in-Ok-clause-there
returns-in-Ok-clause-there c = λ look names keeps named. c.in-Ok.ensures ∙ same_all look names c.args.digests.now c.args.reads keeps named
