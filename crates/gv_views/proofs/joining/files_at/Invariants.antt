use Rattle.std.proofs.Common.{◌≡◌, ◌++◌, ◌∷◌, drop}
use Rattle.gv_views.specs.Told.{IsTold, told_files}
use Rattle.gv_views.specs.Views.{all_files}
use Rattle.gv_views.proofs.joining.files_at.Given as goal

-- the files so far, and those of the folders that are left, are those of all
abbrev pub invariant-loop-folder : goal.invariant-loop-folder
invariant-loop-folder g l = record {
  these : IsTold (g.T.Tree.files l.fn.tree) → l.files ++ all_files (told_files (g.T.Tree.files l.fn.tree)) (drop l.folder-index l.others) l.path ≡ all_files (told_files (g.T.Tree.files l.fn.tree)) (l.first ∷ l.others) l.path;
  files : g.T.Tree.files l.tree ≡ g.T.Tree.files l.fn.tree;
  root : g.T.Tree.entered l.tree ≡ g.T.Tree.entered l.fn.tree;
  lent : g.T.Tree.lent l.tree ≡ g.T.Tree.lent l.fn.tree;
  calm : g.T.Tree.faults l.tree ≡ g.T.Tree.faults l.fn.tree;
}
