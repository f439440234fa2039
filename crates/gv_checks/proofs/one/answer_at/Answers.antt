use Rattle.gv_plain.specs.Context.{case_of}
use Rattle.gv_checks.specs.Queries.{query_of}
use Rattle.gv_checks.proofs.OneLemmas.{counts_refused}
use Rattle.gv_checks.proofs.one.answer_at.Goals as goal

pub returns-in-Err-clause-answers : goal.returns-in-Err-clause-answers
returns-in-Err-clause-answers g c = c.in-Err.ensures.refused c.args.options.now.budget c.args.certs.now

pub returns-in-Err-clause-counted : goal.returns-in-Err-clause-counted
returns-in-Err-clause-counted g c = counts_refused (query_of (case_of c.args.judged.now) c.args.class) c.args.steps.now c.lowered.new.steps c.in-Err.fault c.in-Err.ensures.refused c.lowered.ensures.steps
