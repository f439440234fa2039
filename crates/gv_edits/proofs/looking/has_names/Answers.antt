use Rattle.std.proofs.Common.{◌≡◌, not, length, ap, ◌∙◌}
use Rattle.std.specs.Prelude.{◌==◌}
use Rattle.gv_edits.specs.Inner.{told_files}
use Rattle.gv_edits.proofs.Looks.{names_folder}
use Rattle.gv_edits.proofs.looking.has_names.Goals as goal

pub returns-clause-is : goal.returns-clause-is
returns-clause-is g c =
    let empty : c.is_empty.result ≡ (length c.in_ok-names.names == 0) = rw c.items.ensures at c.is_empty.ensures in
    λ t. ap not empty ∙ names_folder c.in_order_law.ensures (told_files (g.T.Tree.files c.args.tree.now)) c.args.path.now c.in_ok-names.names (c.in_ok-names.ensures.names t)
