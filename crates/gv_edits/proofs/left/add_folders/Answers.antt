use Rattle.std.proofs.Common.{◌≡◌, ◌||◌, sym, ap, ◌∙◌}
use Rattle.std.proofs.lemmas.Result.{IfOk-weaker}
use Rattle.gv_base.specs.Listing.{is_folder}
use Rattle.gv_edits.specs.Inner.{IsTold, told_files}
use Rattle.gv_edits.specs.Edited.{left_files, any_folder}
use Rattle.gv_edits.proofs.Overlays.{uncut_more}
use Rattle.gv_edits.proofs.Lefts.{listed_stand, listed_folder}
use Rattle.gv_edits.proofs.left.add_folders.Goals as goal

pub add_each-requires : goal.add_each-requires
add_each-requires g c = rw c.names_of.ensures.files (λ t. listed_stand c.in_order_law.ensures (told_files (g.T.Tree.files c.args.tree.now)) c.args.path.now c.in_ok-names.names (c.in_ok-names.ensures.names t))

pub returns-clause-any : goal.returns-clause-any
returns-clause-any g c =
    let m = told_files (g.T.Tree.files c.args.tree.now) in
    let u = left_files (g.T.Tree.files c.args.tree.now) c.args.edits.now in
    IfOk-weaker c.add_each.result _
    (λ any. IsTold (g.T.Tree.files c.args.tree.now) → (any || any_folder u c.add_each.new.ahead.items) ≡ (any_folder u c.args.ahead.now.items || is_folder u c.args.path.now))
    (λ any h t. h t ∙ ap (λ b. any_folder u c.args.ahead.now.items || b) (sym (listed_folder c.in_order_law.ensures u m c.args.path.now c.in_ok-names.names (uncut_more m c.args.edits.now) (c.in_ok-names.ensures.names t))))
    (rw c.names_of.ensures.files at c.add_each.ensures.any)
