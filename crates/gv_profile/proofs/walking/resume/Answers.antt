use Rattle.std.proofs.Common.{Some, None, ◌≡◌, ap, sym, ◌∙◌, List}
use Rattle.std.specs.Prelude.{slice_get}
use Rattle.std.specs.FinMap.{get}
use Rattle.gv_profile.specs.declared.frames.Walk.{Walk}
use Rattle.gv_profile.specs.declared.parent_files.ParentLine.{ParentLine}
use Rattle.gv_profile.proofs.Walks.{left_ok, next_parent}
use Rattle.gv_profile.specs.Slices.{read_at}
use Rattle.std.proofs.lemmas.Bool.{ltb-false, ltb-true}
use Rattle.std.proofs.lemmas.Option.{slice_get_past}
use Rattle.gv_profile.proofs.walking.resume.Goals as goal

there : (c : goal.After-follow) → slice_get c.args.frame.parents c.args.frame.next ≡ Some c.in-Some.parent.now
there c = ap (λ (ps : List ParentLine). slice_get ps c.args.frame.next) (sym c.items.ensures) ∙ read_at c.items.result.now c.args.frame.next c.in-Some.parent.now (ltb-true _ _ (sym c.in-Some.ensures.lookup.0)) c.in-Some.ensures.lookup.1

pub returns-in_default-clause-leads : goal.returns-in_default-clause-leads
returns-in_default-clause-leads c =
    let none : slice_get c.args.frame.parents c.args.frame.next ≡ None =
    ap (λ (ps : List ParentLine). slice_get ps c.args.frame.next) (sym c.items.ensures)
    ∙ slice_get_past c.items.result.now c.args.frame.next (ltb-false _ _ (sym c.in_default.ensures.lookup.0)) in
    left_ok (get c.args.dirs.now) c.args.walk c.args.frame c.leave.result none c.requires c.leave.ensures.ok

pub returns-clause-leads : goal.returns-clause-leads
returns-clause-leads c =
    let look = get c.args.dirs.now in
    let pushed = c.in-Ok-push.walk in
    let visits : pushed.visits ≡ c.args.walk.visits = ap (λ (w : Walk). w.visits) c.in-Ok-push.ensures.ok in
    let done : pushed.done ≡ c.args.walk.done = ap (λ (w : Walk). w.done) c.in-Ok-push.ensures.ok in
    let meets = next_parent look c.args.walk pushed c.args.frame c.in-Some.parent.now (there c) c.in-Ok-push.ensures.frames in
    rw (meets, ← visits, ← done) (rw (c.in-Ok-copy.ensures, c.in-Ok.ensures) at c.follow.ensures.leads)

pub returns-clause-fault : goal.returns-clause-fault
returns-clause-fault c =
    let look = get c.args.dirs.now in
    let pushed = c.in-Ok-push.walk in
    let visits : pushed.visits ≡ c.args.walk.visits = ap (λ (w : Walk). w.visits) c.in-Ok-push.ensures.ok in
    let meets = next_parent look c.args.walk pushed c.args.frame c.in-Some.parent.now (there c) c.in-Ok-push.ensures.frames in
    rw (meets, ← visits) (rw (c.in-Ok-copy.ensures, c.in-Ok.ensures) at c.follow.ensures.fault)
