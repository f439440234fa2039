use Rattle.std.proofs.Common.{◌≡◌, true, length, map}
use Rattle.std.specs.Vec.Iter.{into_iter_items}
use Rattle.gv_reload.specs.Exchanged.{are_at, set_all}
use Rattle.gv_load.specs.Repository.{body_of, pkg_of}
use Rattle.gv_reload.proofs.exchanging.set_all.Given as goal

-- what is set so far, with what comes, is all; and what comes ties with what stands there
abbrev pub invariant-loop-place : goal.invariant-loop-place
invariant-loop-place l = record {
  count : length l.packages.bodies ≡ length l.packages.pkgs;
  there : are_at l.packages.pkgs (into_iter_items l.place-iterator) (map pkg_of l.members.keys) ≡ true;
  pkgs : set_all l.packages.pkgs (into_iter_items l.place-iterator) (map pkg_of l.members.keys) ≡ set_all l.fn.packages.pkgs l.fn.places.items (map pkg_of l.fn.members.keys);
  bodies : set_all l.packages.bodies (into_iter_items l.place-iterator) (map body_of l.members.keys) ≡ set_all l.fn.packages.bodies l.fn.places.items (map body_of l.fn.members.keys);
}
