-- For invariants: what keywords accept of each package in a profile, at each level.
use Rattle.std.specs.Prelude.{◌≡◌, ℕ, Bool, List, map}
use Rattle.gv_facts.specs.declared.kinds.Level.{Level}
use Rattle.gv_facts.specs.declared.kinds.Level.TheVariants.{Stable, Testing}
use Rattle.gv_facts.specs.declared.pkg.Pkg.{Pkg}
use Rattle.gv_facts.specs.Visible.{accepts}
use Rattle.gv_visible.specs.declared.accepted.ArchBits.{ArchBits}

-- of each package whether its keywords accept it
abbrev pub are_accepted : Level → (arch : List ℕ) → List Pkg → List Bool
are_accepted level arch pkgs = map (λ p. accepts level arch p.keywords) pkgs

abbrev pub IsAccepted : List Pkg → ArchBits → Type 0
IsAccepted pkgs bits = (bits.stable ≡ are_accepted Stable bits.profile.now.arch pkgs) × (bits.testing ≡ are_accepted Testing bits.profile.now.arch pkgs)
