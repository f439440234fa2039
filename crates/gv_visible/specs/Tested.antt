-- For invariants: what is kept of a test that was asked of each package.
use Rattle.std.specs.Prelude.{◌≡◌, Bool, List, Option, IfSome}
use Rattle.gv_facts.specs.declared.kinds.Level.{Level}
use Rattle.gv_facts.specs.declared.kinds.Level.TheVariants.{Stable, Testing}
use Rattle.gv_facts.specs.declared.pkg.Pkg.{Pkg}
use Rattle.gv_facts.specs.declared.profile.Profile.{Profile}
use Rattle.gv_visible.specs.VisiblePkgs.{are_visible}

abbrev pub AreKept : Option (List Bool) → Profile → Level → List Pkg → Type 0
AreKept kept profile level pkgs = IfSome kept (λ bits. bits ≡ are_visible profile level pkgs)

-- at each level
abbrev pub AreAllKept : (stable testing : List Bool) → Profile → List Pkg → Type 0
AreAllKept stable testing profile pkgs = (stable ≡ are_visible profile Stable pkgs) × (testing ≡ are_visible profile Testing pkgs)
