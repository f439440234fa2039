use Rattle.std.proofs.Common.{◌≡◌, map, take}
use Rattle.gv_views.specs.Told.{IsTold, told_files}
use Rattle.gv_overlay.specs.Loaded.{HasAdded}
use Rattle.gv_overlay.specs.Overlays.{master_loading}
use Rattle.gv_overlay.proofs.loading.add_masters.Given as goal

abbrev pub invariant-loop-folder : goal.invariant-loop-folder
invariant-loop-folder g l = record {
  added : IsTold (g.T.Tree.files l.fn.tree) → HasAdded (map (master_loading (told_files (g.T.Tree.files l.fn.tree))) (take l.folder-index l.folders)) l.fn.entries.items l.entries.items;
  files : g.T.Tree.files l.tree ≡ g.T.Tree.files l.fn.tree;
  root : g.T.Tree.entered l.tree ≡ g.T.Tree.entered l.fn.tree;
  lent : g.T.Tree.lent l.tree ≡ g.T.Tree.lent l.fn.tree;
  calm : g.T.Tree.faults l.tree ≡ g.T.Tree.faults l.fn.tree;
}
