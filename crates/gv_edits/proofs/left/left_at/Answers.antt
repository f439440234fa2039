use Rattle.std.proofs.Common.{◌≡◌, ◌<◌, true, false, length, sym, ◌∙◌}
use Rattle.std.specs.FinMap.{contains_key}
use Rattle.gv_edits.specs.Inner.{told_files}
use Rattle.gv_edits.specs.Kept.{cut_paths}
use Rattle.gv_edits.proofs.Overlays.{long_left}
use Rattle.gv_edits.proofs.Lefts.{cut_left, file_left, dir_left}
use Rattle.gv_edits.proofs.left.left_at.Goals as goal

pub returns-then-bytes-gt-MAX_PATH_BYTES-clause-left : goal.returns-then-bytes-gt-MAX_PATH_BYTES-clause-left
returns-then-bytes-gt-MAX_PATH_BYTES-clause-left g c =
    let long : 4096 < length c.args.path.now = rw c.bytes.ensures at c.if-bytes-gt-MAX_PATH_BYTES.true in
    λ t h. long_left (told_files (g.T.Tree.files c.args.tree.now)) c.args.edits.now c.args.path.now c.tell.ensures long h

pub returns-then-is_cut-clause-left : goal.returns-then-is_cut-clause-left
returns-then-is_cut-clause-left g c =
    let cut : contains_key (cut_paths c.args.edits.now) c.args.path.now ≡ true = rw c.bytes-2.ensures at (sym c.if-is_cut.ensures) in
    λ t h. cut_left (told_files (g.T.Tree.files c.args.tree.now)) c.args.edits.now c.args.path.now cut

pub returns-in-File-clause-left : goal.returns-in-File-clause-left
returns-in-File-clause-left g c =
    let cut : contains_key (cut_paths c.args.edits.now) c.args.path.now ≡ false = rw c.bytes-2.ensures at (sym c.if-is_cut.ensures) in
    λ t h. file_left (told_files (g.T.Tree.files c.args.tree.now)) c.args.edits.now c.args.path.now cut (sym c.in-File.is ∙ c.in_ok-kind_of.ensures.kind t)

pub returns-in-Dir-clause-left : goal.returns-in-Dir-clause-left
returns-in-Dir-clause-left g c =
    let cut : contains_key (cut_paths c.args.edits.now) c.args.path.now ≡ false = rw c.bytes-2.ensures at (sym c.if-is_cut.ensures) in
    λ t h. dir_left (told_files (g.T.Tree.files c.args.tree.now)) c.args.edits.now c.args.path.now cut (sym c.in-Dir.is ∙ c.in_ok-kind_of.ensures.kind t)
