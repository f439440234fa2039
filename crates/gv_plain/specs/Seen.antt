-- Packages as a profile shows them.
use Rattle.std.specs.Prelude.{List}
use Rattle.gv_facts.specs.declared.pkg.Pkg.{Pkg}
use Rattle.gv_facts.specs.declared.profile.Profile.{Profile}
use Rattle.gv_visible.specs.Candidates.{VisiblePkgs}

abbrev pub seen : List Pkg → Profile → VisiblePkgs
seen pkgs profile = record { pkgs = pkgs; profile = profile }
