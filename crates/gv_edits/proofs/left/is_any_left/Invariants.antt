use Rattle.std.proofs.Common.{◌≡◌}
use Rattle.gv_base.specs.Listing.{is_folder}
use Rattle.gv_edits.specs.Inner.{IsTold}
use Rattle.gv_edits.specs.Edited.{left_files, any_folder}
use Rattle.gv_edits.proofs.left.is_any_left.Given as goal

-- a file is left below the path exactly where one is left below a folder that is still ahead
abbrev pub invariant-loop : goal.invariant-loop
invariant-loop g l = record {
  any : IsTold (g.T.Tree.files l.fn.tree) → any_folder (left_files (g.T.Tree.files l.fn.tree) l.edits) l.ahead.items ≡ is_folder (left_files (g.T.Tree.files l.fn.tree) l.edits) l.path;
  files : g.T.Tree.files l.tree ≡ g.T.Tree.files l.fn.tree;
  root : g.T.Tree.entered l.tree ≡ g.T.Tree.entered l.fn.tree;
  lent : g.T.Tree.lent l.tree ≡ g.T.Tree.lent l.fn.tree;
  calm : g.T.Tree.faults l.tree ≡ g.T.Tree.faults l.fn.tree;
}
