use Rattle.std.proofs.Common.{◌≡◌, drop}
use Rattle.std.specs.Prelude.{slice_get}
use Rattle.std.specs.List.{filter_map, find}
use Rattle.gv_profcheck.specs.Redundant.{betters}
use Rattle.gv_profcheck.proofs.versions.first_at.Given as goal

abbrev pub invariant-loop-place : goal.invariant-loop-place
invariant-loop-place l = find (betters l.pkg) (filter_map (slice_get l.pkgs) (drop l.place-index l.places)) ≡ find (betters l.pkg) (filter_map (slice_get l.pkgs) l.places)
