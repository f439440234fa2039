use Rattle.std.proofs.Common.{◌≡◌, true, ◌||◌, drop}
use Rattle.gv_edits.specs.Inner.{IsTold, told_files}
use Rattle.gv_edits.specs.Edited.{left_files, any_folder, any_stands, all_stand}
use Rattle.gv_edits.proofs.left.add_each.Given as goal

-- a file is left in the folders so far or at the other names exactly where one was left before or at all names
abbrev pub invariant-loop-name : goal.invariant-loop-name
invariant-loop-name g l = record {
  any : IsTold (g.T.Tree.files l.fn.tree) → (any_folder (left_files (g.T.Tree.files l.fn.tree) l.edits) l.ahead.items || any_stands (left_files (g.T.Tree.files l.fn.tree) l.edits) l.path (drop l.name-index l.names)) ≡ (any_folder (left_files (g.T.Tree.files l.fn.tree) l.edits) l.fn.ahead.items || any_stands (left_files (g.T.Tree.files l.fn.tree) l.edits) l.path l.names);
  stand : IsTold (g.T.Tree.files l.fn.tree) → all_stand (told_files (g.T.Tree.files l.fn.tree)) l.path (drop l.name-index l.names) ≡ true;
  files : g.T.Tree.files l.tree ≡ g.T.Tree.files l.fn.tree;
  root : g.T.Tree.entered l.tree ≡ g.T.Tree.entered l.fn.tree;
  lent : g.T.Tree.lent l.tree ≡ g.T.Tree.lent l.fn.tree;
  calm : g.T.Tree.faults l.tree ≡ g.T.Tree.faults l.fn.tree;
}
