use Rattle.gv_run.proofs.Replied.{sees, unjudged}
use Rattle.gv_run.proofs.replying.make_report.Goals as goal

pub returns-in-Ok-clause-sees : goal.returns-in-Ok-clause-sees
returns-in-Ok-clause-sees g c =
    let after = c.report.ensures in
    sees c.args.session.now c.report.new.self (g.T.Tree.files c.args.tree.now) (g.T.Tree.files c.report.new.tree) c.args.steps.now c.report.new.steps c.in-Ok.report c.in-Ok.ensures.text
    after.options after.edits c.in-Ok.ensures.seen after.files after.agrees

pub returns-in-Err-Judge-clause-cause : goal.returns-in-Err-Judge-clause-cause
returns-in-Err-Judge-clause-cause g c =
    unjudged c.args.session.now (g.T.Tree.files c.args.tree.now) (g.T.Tree.faults c.args.tree.now) (g.T.Tree.faults c.report.new.tree) c.args.steps.now c.report.new.steps c.in-Err-Judge.fault c.in-Err-Judge.repo _
    (rw c.in-Err-Judge.field-0-is at c.in-Err-Judge.ensures.cause) c.judge_refusal-refusal.ensures
