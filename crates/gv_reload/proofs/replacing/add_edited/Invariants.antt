use Rattle.std.proofs.Common.{◌≡◌, length}
use Rattle.std.specs.Prelude.{filter, fold}
use Rattle.std.specs.BTreeSet.{insert_key}
use Rattle.std.specs.Vec.Iter.{into_iter_items, into_iter_len}
use Rattle.gv_reload.specs.EntryEdits.{together}
use Rattle.gv_reload.specs.Replacing.{is_of_edited}
use Rattle.gv_load.specs.Repository.{member_cmp}
use Rattle.gv_reload.proofs.replacing.add_edited.Given as goal

-- those so far, with those of the other packages, are all
abbrev pub invariant-loop-pkg : goal.invariant-loop-pkg
invariant-loop-pkg l = record {
  count : into_iter_len l.bodies ≡ length (into_iter_items l.bodies);
  members : fold (insert_key member_cmp) l.members.keys (filter (is_of_edited l.edits) (together (into_iter_items l.pkg-iterator) (into_iter_items l.bodies)))
      ≡ fold (insert_key member_cmp) l.fn.members.keys (filter (is_of_edited l.edits) (together l.fn.packages.pkgs l.fn.packages.bodies));
}
