use Rattle.std.proofs.Common.{◌≡◌, ◌++◌, length, map}
use Rattle.std.specs.Prelude.{filter}
use Rattle.std.specs.Vec.Iter.{into_iter_items, into_iter_len}
use Rattle.gv_reload.specs.EntryEdits.{is_other, together}
use Rattle.gv_reload.specs.Interleaved.{interleaved}
use Rattle.gv_load.specs.Repository.{body_of, member_cmp, pkg_of}
use Rattle.gv_reload.proofs.replacing.add_standing.Given as goal

-- those so far, with those that come of the others, are all
abbrev pub invariant-loop-pkg : goal.invariant-loop-pkg
invariant-loop-pkg l = record {
  count : into_iter_len l.bodies ≡ length (into_iter_items l.bodies);
  pkgs : l.packages.pkgs ++ map pkg_of (interleaved member_cmp (filter (is_other l.edits) (together (into_iter_items l.pkg-iterator) (into_iter_items l.bodies))) l.edited.keys)
      ≡ l.fn.packages.pkgs ++ map pkg_of (interleaved member_cmp (filter (is_other l.edits) (together l.fn.old.pkgs l.fn.old.bodies)) l.fn.edited.keys);
  bodies : l.packages.bodies ++ map body_of (interleaved member_cmp (filter (is_other l.edits) (together (into_iter_items l.pkg-iterator) (into_iter_items l.bodies))) l.edited.keys)
      ≡ l.fn.packages.bodies ++ map body_of (interleaved member_cmp (filter (is_other l.edits) (together l.fn.old.pkgs l.fn.old.bodies)) l.fn.edited.keys);
}
