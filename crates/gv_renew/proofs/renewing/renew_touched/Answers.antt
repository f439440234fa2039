use Rattle.std.proofs.Common.{ap, ◌∙◌}
use Rattle.gv_facts.specs.Places.{places_of}
use Rattle.gv_renew.specs.Touched.{is_stale_by}
use Rattle.gv_renew.proofs.DueLemmas.{answered_due, due_counted, due_refused}
use Rattle.gv_renew.proofs.RenewLemmas.{here, stale_by_follows}
use Rattle.gv_renew.proofs.renewing.renew_touched.Goals as goal

pub renewed-requires-clause-places : goal.renewed-requires-clause-places
renewed-requires-clause-places g c =
    let is_stale = is_stale_by c.args.edits.now c.args.touched.now in
    (is_stale, (stale_by_follows c.args.walk.now.options c.args.edits.now c.args.repo.now c.args.touched.now c.requires.touched, c.in_ok-stale.ensures ∙ ap (places_of is_stale) c.items.ensures))

pub returns-in-Err-clause-first : goal.returns-in-Err-clause-first
returns-in-Err-clause-first g c =
    due_refused c.deref.result c.args.walk.now.options c.args.edits.now c.args.repo.now c.args.touched.now c.requires.touched (c.deref.ensures.value ∙ c.in_ok-sets.ensures) c.args.walk.now c.requires.walk c.in-Err.fault c.in-Err.ensures.first

pub returns-clause-renewed : goal.returns-clause-renewed
returns-clause-renewed g c =
    let is_stale = is_stale_by c.args.edits.now c.args.touched.now in
    let follows = stale_by_follows c.args.walk.now.options c.args.edits.now c.args.repo.now c.args.touched.now c.requires.touched in
    here c.args.walk.now.options c.args.edits.now c.args.repo.now c.args.touched.now c.requires.touched c.args.before c.in_ok-told.told c.in-Ok.answered c.in_ok-renewed.field-0 c.args.steps.now c.answered.new.steps
    c.in_ok-told.ensures
    (answered_due c.deref.result c.args.walk.now.options c.args.edits.now c.args.repo.now c.args.touched.now c.requires.touched (c.deref.ensures.value ∙ c.in_ok-sets.ensures) c.args.walk.now c.requires.walk c.args.steps.now c.answered.new.steps c.in-Ok.answered c.in-Ok.ensures.answers)
    (c.in_ok-renewed.ensures is_stale follows (c.in_ok-stale.ensures ∙ ap (places_of is_stale) c.items.ensures))

pub returns-in-Err-clause-few : goal.returns-in-Err-clause-few
returns-in-Err-clause-few g c =
    due_counted c.deref.result c.args.walk.now.options c.args.edits.now c.args.repo.now c.args.touched.now c.requires.touched (c.deref.ensures.value ∙ c.in_ok-sets.ensures) c.args.walk.now c.requires.walk c.args.steps.now c.answered.new.steps c.answered.ensures.few

pub returns-clause-few : goal.returns-clause-few
returns-clause-few g c =
    due_counted c.deref.result c.args.walk.now.options c.args.edits.now c.args.repo.now c.args.touched.now c.requires.touched (c.deref.ensures.value ∙ c.in_ok-sets.ensures) c.args.walk.now c.requires.walk c.args.steps.now c.answered.new.steps c.answered.ensures.few

pub returns-in_err-renewed-clause-few : goal.returns-in_err-renewed-clause-few
returns-in_err-renewed-clause-few g c =
    due_counted c.deref.result c.args.walk.now.options c.args.edits.now c.args.repo.now c.args.touched.now c.requires.touched (c.deref.ensures.value ∙ c.in_ok-sets.ensures) c.args.walk.now c.requires.walk c.args.steps.now c.answered.new.steps c.answered.ensures.few
