use Rattle.std.proofs.Common.{◌≡◌, ◌++◌, drop}
use Rattle.std.specs.Prelude.{flat_map}
use Rattle.gv_load.specs.Categories.{ebuilds_in}
use Rattle.gv_reading.specs.Causes.{view}
use Rattle.gv_load.specs.Order.{folder_lists}
use Rattle.gv_reading.specs.Passing.{IsAmid}
use Rattle.gv_load.proofs.categories.list_folders.Given as goal

-- the ebuilds so far and those of the other folders are all
abbrev pub invariant-loop-name : goal.invariant-loop-name
invariant-loop-name g l =
    let see = view g.T.Tree.files g.T.Tree.faults g.T.Tree.entered g.T.Tree.lent in
    IsAmid (see l.fn.tree) (see l.tree) l.reader l.reader (λ look. folder_lists l.category (drop l.name-index l.names)) (λ look. folder_lists l.category l.names)
    (λ look. l.pfs ++ flat_map (ebuilds_in look l.category) (drop l.name-index l.names) ≡ flat_map (ebuilds_in look l.category) l.names)
