use Rattle.std.proofs.Common.{refl, ap, ◌∙◌}
use Rattle.gv_edits.specs.Script.{Reading}
use Rattle.gv_session.specs.Session.{State}
use Rattle.gv_run.specs.SessionSteps.{ahead}
use Rattle.gv_run.proofs.Sessions.{served_from, stopped_from, unserved}
use Rattle.gv_run.proofs.serving.serve.Goals as goal

pub returns-in-Ok-serve_script-clause-performs : goal.returns-in-Ok-serve_script-clause-performs
returns-in-Ok-serve_script-clause-performs g c = λ kept store_faults.
    let ended = c.in-Ok-serve_script.ensures in
    served_from c.args.sitting.now _ _ ended.files _ _ ended.tree_later kept store_faults _ _ _ _ ended.out_later _ _ _ _ _ _ _ _
    (ap (λ (x : State). x.options) c.start-session.ensures ∙ c.in-Ok.ensures) (ap (λ (x : State). x.edits) c.start-session.ensures) (ap (λ (x : State). x.last) c.start-session.ensures) (c.in-Ok-new.ensures.whole _)
    (ap (λ (r : Reading). ahead r.taken (g.I.Source.left c.args.input.now)) c.in-Ok-new.ensures.new) (ap (λ (r : Reading). r.read) c.in-Ok-new.ensures.new) refl refl
    ended.done

pub returns-clause-performs : goal.returns-clause-performs
returns-clause-performs g c = λ kept store_faults.
    let ended = c.in-Err.ensures in
    stopped_from c.args.sitting.now _ _ ended.files _ _ ended.tree_later kept store_faults _ _ _ _ ended.out_later _ _ _ _ _ _ _ _
    (ap (λ (x : State). x.options) c.start-session.ensures ∙ c.in-Ok.ensures) (ap (λ (x : State). x.edits) c.start-session.ensures) (ap (λ (x : State). x.last) c.start-session.ensures) (c.in-Ok-new.ensures.whole _)
    (ap (λ (r : Reading). ahead r.taken (g.I.Source.left c.args.input.now)) c.in-Ok-new.ensures.new) (ap (λ (r : Reading). r.read) c.in-Ok-new.ensures.new) refl refl
    c.in-Err.refusal ended.cause

pub returns-in_default-clause-performs : goal.returns-in_default-clause-performs
returns-in_default-clause-performs g c = λ kept store_faults. unserved c.args.sitting.now _ _ kept store_faults _ _ _ _ _

pub returns-in_default-new-clause-performs : goal.returns-in_default-new-clause-performs
returns-in_default-new-clause-performs g c = λ kept store_faults. unserved c.args.sitting.now _ _ kept store_faults _ _ _ _ _
