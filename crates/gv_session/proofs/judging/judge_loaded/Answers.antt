use Rattle.std.proofs.Common.{refl, subst, ◌∙◌}
use Rattle.std.specs.Prelude.{Some}
use Rattle.std.proofs.lemmas.Result.{IfOk-weaker}
use Rattle.gv_reload.specs.Replacing.{IsChange}
use Rattle.gv_reload.specs.declared.replacing.Changed.TheVariants.{Part}
use Rattle.gv_session.specs.Judging.{IsJudgedFor, Outset, outset}
use Rattle.gv_session.proofs.JudgingLemmas.{IsWhole, all_other, in_order, refused_again, renewed, same_kept, whole_loaded, with_repo}
use Rattle.gv_session.proofs.judging.judge_loaded.Goals as goal

pub judge_again-requires-clause-before : goal.judge_again-requires-clause-before
judge_again-requires-clause-before g c = in_order c.ordered_law.ensures.again c.args.options.now c.requires.last.repo c.args.last.reports c.requires.last.reports

pub judge_again-requires-clause-kept : goal.judge_again-requires-clause-kept
judge_again-requires-clause-kept g c =
    let o : Outset = outset c.args.options.now c.args.edits.now (g.T.Tree.files c.args.tree.now) (Some c.args.last.seen) c.args.steps.now in
    let change : IsChange c.args.entries.now c.args.last.loaded.repo c.in-Ok.loaded.repo (Part c.in-Part.repo) = subst (IsChange c.args.entries.now c.args.last.loaded.repo c.in-Ok.loaded.repo) c.in-Part.is c.in_ok-repo.ensures in
    let w : IsWhole o c.args.entries.now c.requires.last.repo c.args.last.loaded.folders (with_repo c.in-Ok.loaded c.in-Part.repo) =
    whole_loaded o c.args.last c.args.entries.now c.requires.last c.requires.small c.requires.some c.entries_law.ensures c.in-Ok.loaded c.in-Ok.ensures.repo c.in-Ok.ensures.found c.in-Part.repo change in
    c.in_ok-kept.ensures ∙ same_kept o c.args.last c.args.entries.now c.requires.last c.requires.small c.requires.some (with_repo c.in-Ok.loaded c.in-Part.repo) w

pub returns-in-Part-clause-judged : goal.returns-in-Part-clause-judged
returns-in-Part-clause-judged g c =
    let o : Outset = outset c.args.options.now c.args.edits.now (g.T.Tree.files c.args.tree.now) (Some c.args.last.seen) c.args.steps.now in
    let change : IsChange c.args.entries.now c.args.last.loaded.repo c.in-Ok.loaded.repo (Part c.in-Part.repo) = subst (IsChange c.args.entries.now c.args.last.loaded.repo c.in-Ok.loaded.repo) c.in-Part.is c.in_ok-repo.ensures in
    let w : IsWhole o c.args.entries.now c.requires.last.repo c.args.last.loaded.folders (with_repo c.in-Ok.loaded c.in-Part.repo) =
    whole_loaded o c.args.last c.args.entries.now c.requires.last c.requires.small c.requires.some c.entries_law.ensures c.in-Ok.loaded c.in-Ok.ensures.repo c.in-Ok.ensures.found c.in-Part.repo change in
    renewed o c.args.last c.args.entries.now c.requires.last c.requires.small c.requires.some (with_repo c.in-Ok.loaded c.in-Part.repo) w refl c.judge_again.new.steps c.judge_again.result change.bodies change.order c.judge_again.ensures.judged

pub returns-in-Part-clause-cause : goal.returns-in-Part-clause-cause
returns-in-Part-clause-cause g c =
    let o : Outset = outset c.args.options.now c.args.edits.now (g.T.Tree.files c.args.tree.now) (Some c.args.last.seen) c.args.steps.now in
    let change : IsChange c.args.entries.now c.args.last.loaded.repo c.in-Ok.loaded.repo (Part c.in-Part.repo) = subst (IsChange c.args.entries.now c.args.last.loaded.repo c.in-Ok.loaded.repo) c.in-Part.is c.in_ok-repo.ensures in
    let w : IsWhole o c.args.entries.now c.requires.last.repo c.args.last.loaded.folders (with_repo c.in-Ok.loaded c.in-Part.repo) =
    whole_loaded o c.args.last c.args.entries.now c.requires.last c.requires.small c.requires.some c.entries_law.ensures c.in-Ok.loaded c.in-Ok.ensures.repo c.in-Ok.ensures.found c.in-Part.repo change in
    refused_again o c.args.last c.args.entries.now c.requires.last c.requires.small c.requires.some (with_repo c.in-Ok.loaded c.in-Part.repo) w refl c.judge_again.new.steps c.judge_again.result _ _ c.judge_again.ensures.cause c.in-Ok.ensures.calm

pub returns-clause-judged : goal.returns-clause-judged
returns-clause-judged g c =
    let o : Outset = outset c.args.options.now c.args.edits.now (g.T.Tree.files c.args.tree.now) (Some c.args.last.seen) c.args.steps.now in
    IfOk-weaker c.judge_anew.result _ (IsJudgedFor o c.judge_anew.new.steps)
    (λ new is. all_other o c.args.last c.args.entries.now c.requires.last c.requires.small c.requires.some c.entries_law.ensures c.in-Ok.loaded c.in-Ok.ensures.repo c.in-Ok.ensures.found
    c.in-Other.repo c.judge_anew.new.steps new refl c.in-Ok.ensures.bodies c.in-Ok.ensures.order c.in-Ok.ensures.classless
    (subst (IsChange c.args.entries.now c.args.last.loaded.repo c.in-Ok.loaded.repo) c.in-Other.is c.in_ok-repo.ensures) is) c.judge_anew.ensures.judged
