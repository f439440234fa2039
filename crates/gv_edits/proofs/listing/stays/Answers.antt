use Rattle.std.proofs.Common.{◌≡◌, true, false, Err, sym, ap, ◌∙◌}
use Rattle.std.specs.Option.{is_some}
use Rattle.std.specs.FinMap.{get, contains_key}
use Rattle.gv_base.specs.Listing.{is_folder}
use Rattle.gv_edits.specs.Inner.{told_files}
use Rattle.gv_edits.specs.Kept.{put_files, cut_paths}
use Rattle.gv_edits.proofs.Lists.{is_some_copied, put_stays, uncut_stays, anything_stands, large_stands}
use Rattle.gv_edits.proofs.listing.stays.Goals as goal

pub returns-then-is_some-clause-stays : goal.returns-then-is_some-clause-stays
returns-then-is_some-clause-stays g c =
    let put : is_some (get (put_files c.args.edits.now) c.args.path.now) ≡ true = ap is_some (sym (rw c.bytes.ensures at c.put_at.ensures.value)) ∙ is_some_copied c.put_at.result ∙ sym c.if-is_some.ensures in
    λ t h. put_stays (told_files (g.T.Tree.files c.args.tree.now)) c.args.edits.now c.args.path.now put

pub returns-then-not-branch-clause-stays : goal.returns-then-not-branch-clause-stays
returns-then-not-branch-clause-stays g c =
    let cut : contains_key (cut_paths c.args.edits.now) c.args.path.now ≡ false = rw c.bytes-2.ensures at (sym c.if-not-is_cut.ensures) in
    let below : is_folder (cut_paths c.args.edits.now) c.args.path.now ≡ false = rw c.bytes-then-not-is_cut.ensures at (sym c.in_ok-has_cut_below.ensures ∙ c.if-not-branch.true) in
    λ t h. uncut_stays (told_files (g.T.Tree.files c.args.tree.now)) c.args.edits.now c.args.path.now cut below h

pub returns-in-Ok-clause-stays : goal.returns-in-Ok-clause-stays
returns-in-Ok-clause-stays g c = λ t h. c.is_anything.ensures ∙ anything_stands (g.T.Tree.files c.args.tree.now) c.args.edits.now c.args.path.now c.in-Ok.found c.in-Ok.ensures.found t

pub returns-in-Err-TooLarge-clause-stays : goal.returns-in-Err-TooLarge-clause-stays
returns-in-Err-TooLarge-clause-stays g c = λ t h. large_stands (g.T.Tree.files c.args.tree.now) c.args.edits.now c.args.path.now (c.in-Err-TooLarge.ensures.large (ap Err c.in-Err-TooLarge.field-0-is)) t
