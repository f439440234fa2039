use Rattle.std.proofs.Common.{◌≡◌, ◌++◌, length}
use Rattle.std.specs.Vec.Iter.{into_iter_items, into_iter_len}
use Rattle.gv_overlay.specs.Combined.{entries_of}
use Rattle.gv_overlay.proofs.combining.add_entries.Given as goal

-- those so far, with those of the other packages, are all
abbrev pub invariant-loop-pkg : goal.invariant-loop-pkg
invariant-loop-pkg l = record {
  count : into_iter_len l.bodies ≡ length (into_iter_items l.bodies);
  entries : l.entries.items ++ entries_of l.own (into_iter_items l.pkg-iterator) (into_iter_items l.bodies) ≡ l.fn.entries.items ++ entries_of l.own l.fn.pkgs l.fn.bodies;
}
