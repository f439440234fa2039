use Rattle.std.proofs.Common.{◌≡◌, true, false, sym, ◌∙◌}
use Rattle.std.proofs.lemmas.Result.{IfOk-weaker}
use Rattle.gv_base.specs.Listing.{is_folder}
use Rattle.gv_edits.specs.Inner.{IsTold, told_files}
use Rattle.gv_edits.specs.Edits.{edited}
use Rattle.gv_edits.specs.Kept.{put_files, cut_paths}
use Rattle.gv_edits.proofs.Looks.{put_below, no_put_below, no_edit_below}
use Rattle.gv_edits.proofs.looking.is_edited_folder.Goals as goal

pub returns-then-branch-clause-is : goal.returns-then-branch-clause-is
returns-then-branch-clause-is g c =
    let put : true ≡ is_folder (put_files c.args.edits.now) c.args.path.now = sym c.if-branch.true ∙ rw c.bytes.ensures at c.in_ok-has_put_below.ensures in
    λ t. put_below (told_files (g.T.Tree.files c.args.tree.now)) c.args.edits.now c.args.path.now put

pub returns-then-branch-2-clause-is : goal.returns-then-branch-2-clause-is
returns-then-branch-2-clause-is g c =
    let m = told_files (g.T.Tree.files c.args.tree.now) in
    let put : false ≡ is_folder (put_files c.args.edits.now) c.args.path.now = sym c.if-branch.false ∙ rw c.bytes.ensures at c.in_ok-has_put_below.ensures in
    IfOk-weaker c.is_any_left.result _ (λ is. IsTold (g.T.Tree.files c.args.tree.now) → is ≡ is_folder (edited m c.args.edits.now) c.args.path.now)
    (λ is h t. h t ∙ sym (no_put_below m c.args.edits.now c.args.path.now put)) c.is_any_left.ensures.any

pub returns-clause-is : goal.returns-clause-is
returns-clause-is g c =
    let m = told_files (g.T.Tree.files c.args.tree.now) in
    let put : false ≡ is_folder (put_files c.args.edits.now) c.args.path.now = sym c.if-branch.false ∙ rw c.bytes.ensures at c.in_ok-has_put_below.ensures in
    let cut : false ≡ is_folder (cut_paths c.args.edits.now) c.args.path.now = sym c.if-branch-2.false ∙ rw c.bytes-2.ensures at c.in_ok-has_cut_below.ensures in
    IfOk-weaker c.is_inner_folder.result _ (λ is. IsTold (g.T.Tree.files c.args.tree.now) → is ≡ is_folder (edited m c.args.edits.now) c.args.path.now)
    (λ is h t. h t ∙ sym (no_edit_below m c.args.edits.now c.args.path.now put cut)) c.is_inner_folder.ensures.is
