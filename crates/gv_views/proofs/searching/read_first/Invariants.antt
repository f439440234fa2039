use Rattle.std.proofs.Common.{◌≡◌, ◌||◌, drop}
use Rattle.gv_views.specs.Told.{IsTold, told_files, any_folder}
use Rattle.gv_views.specs.Views.{first_file}
use Rattle.gv_views.proofs.searching.read_first.Given as goal

-- what is left says the same as all
abbrev pub invariant-loop-folder : goal.invariant-loop-folder
invariant-loop-folder g l = record {
  file : IsTold (g.T.Tree.files l.fn.tree) → first_file (told_files (g.T.Tree.files l.fn.tree)) (drop l.folder-index l.folders) l.path ≡ first_file (told_files (g.T.Tree.files l.fn.tree)) l.folders l.path;
  folder : IsTold (g.T.Tree.files l.fn.tree) → (l.is_folder || any_folder (told_files (g.T.Tree.files l.fn.tree)) (drop l.folder-index l.folders) l.path) ≡ any_folder (told_files (g.T.Tree.files l.fn.tree)) l.folders l.path;
  files : g.T.Tree.files l.tree ≡ g.T.Tree.files l.fn.tree;
  root : g.T.Tree.entered l.tree ≡ g.T.Tree.entered l.fn.tree;
  lent : g.T.Tree.lent l.tree ≡ g.T.Tree.lent l.fn.tree;
  calm : g.T.Tree.faults l.tree ≡ g.T.Tree.faults l.fn.tree;
}
