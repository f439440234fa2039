use Rattle.std.proofs.Common.{Some, ap, subst, sym}
use Rattle.gv_session.specs.Session.{IsLast, State}
use Rattle.gv_session.proofs.SessionLemmas.{all_seen, kept, left, reported, unreported}
use Rattle.gv_session.proofs.session.Session.report.Goals as goal

pub judge_edited-requires : goal.judge_edited-requires
judge_edited-requires g c =
    let v : State = record { options = c.self.inside.options; edits = c.self.inside.edits; last = c.self.inside.last } in
    record { last = kept c.args.self.now v c.self.view_is (g.T.Tree.files c.args.tree.now) c.take-last.result c.take-last.ensures.value c.args.steps.now c.requires }

pub returns-in_ok-text-in-Ok-clause-text :
    goal.returns-in_ok-text-in-Ok-clause-text
returns-in_ok-text-in-Ok-clause-text g c =
    let v : State = record { options = c.self.inside.options; edits = c.self.inside.edits; last = c.self.inside.last } in
    reported c.args.self.now v c.self.view_is (g.T.Tree.files c.args.tree.now) c.take-last.result c.take-last.ensures.value c.args.steps.now c.judge_edited.new.steps c.in-Ok.judged
    c.in-Ok.ensures.judged c.selected_law.ensures c.in_ok-text-in-Ok.text c.in_ok-text-in-Ok.ensures

pub returns-in_ok-text-in-Ok-clause-agrees :
    goal.returns-in_ok-text-in-Ok-clause-agrees
returns-in_ok-text-in-Ok-clause-agrees g c =
    let v : State = record { options = c.self.inside.options; edits = c.self.inside.edits; last = c.self.inside.last } in
    subst (λ t. IsLast c.self.inside.options c.self.inside.edits t c.in-Ok.judged) (sym c.judge_edited.ensures.files)
    (left c.args.self.now v c.self.view_is (g.T.Tree.files c.args.tree.now) c.take-last.result c.take-last.ensures.value c.args.steps.now c.judge_edited.new.steps c.in-Ok.judged c.in-Ok.ensures.judged)

pub returns-in_ok-text-in-Ok-clause-seen :
    goal.returns-in_ok-text-in-Ok-clause-seen
returns-in_ok-text-in-Ok-clause-seen g c =
    let v : State = record { options = c.self.inside.options; edits = c.self.inside.edits; last = c.self.inside.last } in
    ap Some (all_seen c.args.self.now v c.self.view_is (g.T.Tree.files c.args.tree.now) c.take-last.result c.take-last.ensures.value c.args.steps.now c.judge_edited.new.steps c.in-Ok.judged c.in-Ok.ensures.judged)

pub returns-in-Err-clause-cause : goal.returns-in-Err-clause-cause
returns-in-Err-clause-cause g c =
    let v : State = record { options = c.self.inside.options; edits = c.self.inside.edits; last = c.self.inside.last } in
    unreported c.args.self.now v c.self.view_is (g.T.Tree.files c.args.tree.now) c.take-last.result c.take-last.ensures.value c.args.steps.now c.judge_edited.new.steps c.in-Err.fault
    (g.T.Tree.faults c.args.tree.now) (g.T.Tree.faults c.judge_edited.new.tree) c.in-Err.ensures.cause
