use Rattle.std.proofs.Common.{◌≡◌, ◌++◌, true, drop}
use Rattle.std.specs.Prelude.{filter}
use Rattle.gv_edits.specs.Inner.{IsTold, told_files}
use Rattle.gv_edits.specs.Edits.{edited}
use Rattle.gv_edits.specs.Edited.{stands, all_stand, within}
use Rattle.gv_edits.proofs.listing.kept.Given as goal

-- the names that were kept, and those of the other names at which something stands, are all at which something stands
abbrev pub invariant-loop-name : goal.invariant-loop-name
invariant-loop-name g l = record {
  kept : IsTold (g.T.Tree.files l.fn.tree) → l.kept ++ filter (λ name. stands (edited (told_files (g.T.Tree.files l.fn.tree)) l.edits) (within l.path name)) (drop l.name-index l.names) ≡ filter (λ name. stands (edited (told_files (g.T.Tree.files l.fn.tree)) l.edits) (within l.path name)) l.names;
  stand : IsTold (g.T.Tree.files l.fn.tree) → all_stand (told_files (g.T.Tree.files l.fn.tree)) l.path (drop l.name-index l.names) ≡ true;
  files : g.T.Tree.files l.tree ≡ g.T.Tree.files l.fn.tree;
  root : g.T.Tree.entered l.tree ≡ g.T.Tree.entered l.fn.tree;
  lent : g.T.Tree.lent l.tree ≡ g.T.Tree.lent l.fn.tree;
  calm : g.T.Tree.faults l.tree ≡ g.T.Tree.faults l.fn.tree;
}
