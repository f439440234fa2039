use Rattle.std.proofs.Common.{◌≡◌, ◌++◌, map}
use Rattle.std.specs.Vec.Iter.{into_iter_items}
use Rattle.gv_overlay.specs.Combined.{body_of, own_of, pkg_of}
use Rattle.gv_overlay.proofs.combining.apart.Given as goal

abbrev pub invariant-loop-entry : goal.invariant-loop-entry
invariant-loop-entry l = record {
  pkgs : l.parts.pkgs ++ map pkg_of (into_iter_items l.entry-iterator) ≡ map pkg_of l.fn.entries.items;
  bodies : l.parts.bodies ++ map body_of (into_iter_items l.entry-iterator) ≡ map body_of l.fn.entries.items;
  own : l.parts.own ++ map own_of (into_iter_items l.entry-iterator) ≡ map own_of l.fn.entries.items;
}
