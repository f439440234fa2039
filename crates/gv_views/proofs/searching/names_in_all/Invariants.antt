use Rattle.std.proofs.Common.{◌≡◌, ◌++◌, drop}
use Rattle.gv_base.specs.Order.{HaveSameTexts}
use Rattle.gv_views.specs.Told.{IsTold, told_files, all_parts}
use Rattle.gv_views.proofs.searching.names_in_all.Given as goal

-- the names so far, and those of the folders that are left, are those of all
abbrev pub invariant-loop-folder : goal.invariant-loop-folder
invariant-loop-folder g l = record {
  parts : IsTold (g.T.Tree.files l.fn.tree) → HaveSameTexts (l.all ++ all_parts (told_files (g.T.Tree.files l.fn.tree)) (drop l.folder-index l.folders) l.path) (all_parts (told_files (g.T.Tree.files l.fn.tree)) l.folders l.path);
  files : g.T.Tree.files l.tree ≡ g.T.Tree.files l.fn.tree;
  root : g.T.Tree.entered l.tree ≡ g.T.Tree.entered l.fn.tree;
  lent : g.T.Tree.lent l.tree ≡ g.T.Tree.lent l.fn.tree;
  calm : g.T.Tree.faults l.tree ≡ g.T.Tree.faults l.fn.tree;
}
