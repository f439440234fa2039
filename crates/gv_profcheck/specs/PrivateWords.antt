-- Words of private contracts alone, no rule: the version at a place.
use Rattle.std.specs.Prelude.{ℕ, if◌then◌else◌, List, Option, Some, None, slice_get}
use Rattle.gv_facts.specs.declared.pkg.Pkg.{Pkg}
use Rattle.gv_profcheck.specs.Redundant.{betters}

abbrev pub if_better : Pkg → Option Pkg → Option Pkg
if_better p None = None
if_better p (Some q) = if betters p q then Some q else None

abbrev pub better_at : Pkg → List Pkg → ℕ → Option Pkg
better_at p pkgs place = if_better p (slice_get pkgs place)
