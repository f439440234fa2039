use Rattle.std.proofs.Common.{◌≡◌, ap, refl, subst, sym, ◌∙◌}
use Rattle.std.specs.Prelude.{Some}
use Rattle.gv_reload.specs.Rereading.{IsReread, IsRereadOf}
use Rattle.gv_edits.specs.Edits.{edited_told}
use Rattle.gv_load.specs.declared.loading.Loaded.{Loaded}
use Rattle.gv_renew.specs.Mentioned.{other_bodies}
use Rattle.gv_session.specs.Judging.{Outset, outset}
use Rattle.gv_session.proofs.JudgingLemmas.{IsWhole, entries_are, in_order, refused_again, renewed, same_kept, whole_reread}
use Rattle.gv_session.proofs.judging.judge_small.Goals as goal

pub reread_edited-requires-clause-entries : goal.reread_edited-requires-clause-entries
reread_edited-requires-clause-entries g c = entries_are c.args.last.loaded.folders _ c.args.entries.now c.requires.small

pub without-requires : goal.without-requires
without-requires g c = c.requires.last.mentioned

pub with-requires-clause-kept : goal.with-requires-clause-kept
with-requires-clause-kept g c =
    let same : c.in-Ok-Unclear.loaded ≡ c.args.last.loaded =
    subst (IsReread c.args.entries.now c.args.last.loaded (edited_told (g.T.Tree.files c.args.tree.now) c.args.edits.now)) c.in-Ok-Unclear.field-0-is c.in-Ok-Unclear.ensures.reread in
    c.in_ok-kept.ensures ∙ ap (λ (l : Loaded). other_bodies c.args.entries.now l.repo) (sym same)

pub judge_again-requires-clause-before : goal.judge_again-requires-clause-before
judge_again-requires-clause-before g c = in_order c.ordered_law.ensures.again c.args.options.now c.requires.last.repo c.args.last.reports c.requires.last.reports

pub judge_again-requires-clause-kept : goal.judge_again-requires-clause-kept
judge_again-requires-clause-kept g c =
    let o : Outset = outset c.args.options.now c.args.edits.now (g.T.Tree.files c.args.tree.now) (Some c.args.last.seen) c.args.steps.now in
    let is : IsRereadOf c.args.entries.now c.args.last.loaded (edited_told (g.T.Tree.files c.args.tree.now) c.args.edits.now) c.in-Ok-Done.loaded =
    subst (IsReread c.args.entries.now c.args.last.loaded (edited_told (g.T.Tree.files c.args.tree.now) c.args.edits.now)) c.in-Ok-Done.field-0-is c.in-Ok-Done.ensures.reread in
    let w : IsWhole o c.args.entries.now c.requires.last.repo c.args.last.loaded.folders c.in-Ok-Done.loaded =
    whole_reread o c.args.last c.args.entries.now c.requires.last c.requires.small c.requires.some c.in-Ok-Done.loaded is in
    c.in_ok-kept.ensures ∙ same_kept o c.args.last c.args.entries.now c.requires.last c.requires.small c.requires.some c.in-Ok-Done.loaded w

pub returns-in-Ok-Done-clause-judged : goal.returns-in-Ok-Done-clause-judged
returns-in-Ok-Done-clause-judged g c =
    let o : Outset = outset c.args.options.now c.args.edits.now (g.T.Tree.files c.args.tree.now) (Some c.args.last.seen) c.args.steps.now in
    let is : IsRereadOf c.args.entries.now c.args.last.loaded (edited_told (g.T.Tree.files c.args.tree.now) c.args.edits.now) c.in-Ok-Done.loaded =
    subst (IsReread c.args.entries.now c.args.last.loaded (edited_told (g.T.Tree.files c.args.tree.now) c.args.edits.now)) c.in-Ok-Done.field-0-is c.in-Ok-Done.ensures.reread in
    let w : IsWhole o c.args.entries.now c.requires.last.repo c.args.last.loaded.folders c.in-Ok-Done.loaded =
    whole_reread o c.args.last c.args.entries.now c.requires.last c.requires.small c.requires.some c.in-Ok-Done.loaded is in
    renewed o c.args.last c.args.entries.now c.requires.last c.requires.small c.requires.some c.in-Ok-Done.loaded w refl c.judge_again.new.steps c.judge_again.result is.bodies is.order c.judge_again.ensures.judged

pub returns-in-Ok-Done-clause-cause : goal.returns-in-Ok-Done-clause-cause
returns-in-Ok-Done-clause-cause g c =
    let o : Outset = outset c.args.options.now c.args.edits.now (g.T.Tree.files c.args.tree.now) (Some c.args.last.seen) c.args.steps.now in
    let is : IsRereadOf c.args.entries.now c.args.last.loaded (edited_told (g.T.Tree.files c.args.tree.now) c.args.edits.now) c.in-Ok-Done.loaded =
    subst (IsReread c.args.entries.now c.args.last.loaded (edited_told (g.T.Tree.files c.args.tree.now) c.args.edits.now)) c.in-Ok-Done.field-0-is c.in-Ok-Done.ensures.reread in
    let w : IsWhole o c.args.entries.now c.requires.last.repo c.args.last.loaded.folders c.in-Ok-Done.loaded =
    whole_reread o c.args.last c.args.entries.now c.requires.last c.requires.small c.requires.some c.in-Ok-Done.loaded is in
    refused_again o c.args.last c.args.entries.now c.requires.last c.requires.small c.requires.some c.in-Ok-Done.loaded w refl c.judge_again.new.steps c.judge_again.result _ _ c.judge_again.ensures.cause c.in-Ok-Done.ensures.calm
