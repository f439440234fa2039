use Rattle.std.proofs.Common.{◌≡◌, ◌++◌, drop}
use Rattle.std.specs.List.{filter_map}
use Rattle.gv_profcheck.specs.Redundant.{redundant_in}
use Rattle.gv_profcheck.proofs.versions.redundant_among.Given as goal

abbrev pub invariant-loop-pkg : goal.invariant-loop-pkg
invariant-loop-pkg l = l.reports ++ filter_map (redundant_in l.all) (drop l.pkg-index l.pkgs) ≡ filter_map (redundant_in l.all) l.pkgs
