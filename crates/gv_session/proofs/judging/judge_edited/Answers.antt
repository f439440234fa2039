use Rattle.std.proofs.Common.{ap, arith, subst}
use Rattle.std.specs.Prelude.{IfSome}
use Rattle.std.proofs.lemmas.Result.{IfOk-weaker}
use Rattle.gv_session.specs.Due.{new_paths}
use Rattle.gv_session.specs.Judging.{IsJudgedFor, Outset, outset, seen_by}
use Rattle.gv_session.specs.Session.{IsLast}
use Rattle.gv_session.specs.Small.{AreSmall}
use Rattle.gv_session.proofs.JudgingLemmas.{all_large, unchanged}
use Rattle.gv_session.proofs.judging.judge_edited.Goals as goal

pub returns-in_default-2-clause-judged : goal.returns-in_default-2-clause-judged
returns-in_default-2-clause-judged g c =
    let o : Outset = outset c.args.options.now c.args.edits.now (g.T.Tree.files c.args.tree.now) (seen_by c.args.last) c.args.steps.now in
    IfOk-weaker c.judge_all-in_default-2.result _ (IsJudgedFor o c.judge_all-in_default-2.new.steps)
    (λ new is. all_large c.entries_law.ensures o c.in-Some.last c.judge_all-in_default-2.new.steps new (ap seen_by c.in-Some.is)
    (subst (λ l. IfSome l (IsLast c.args.options.now c.args.edits.now (g.T.Tree.files c.args.tree.now))) c.in-Some.is c.requires.last)
    (subst (AreSmall c.in-Some.last.loaded.folders (new_paths c.args.edits.now c.in-Some.last.seen)) c.in_default-2.is c.in_ok-entries.ensures) is) c.judge_all-in_default-2.ensures.judged

pub returns-then-last-len-clause-judged : goal.returns-then-last-len-clause-judged
returns-then-last-len-clause-judged g c =
    let o : Outset = outset c.args.options.now c.args.edits.now (g.T.Tree.files c.args.tree.now) (seen_by c.args.last) c.args.steps.now in
    unchanged o c.in-Some.last (subst (λ l. IfSome l (IsLast c.args.options.now c.args.edits.now (g.T.Tree.files c.args.tree.now))) c.in-Some.is c.requires.last)
    (omega (arith, c.if-last-len.true, c.len.ensures))
