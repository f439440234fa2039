-- The packages that an atom asks for and a profile shows, by their numbers in a list.
use Rattle.std.specs.Prelude.{ℕ, nat_lt, Bool, ◌&&◌, not, if◌then◌else◌, List, map, Option, None, Some, slice_get}
use Rattle.gv_atom.specs.declared.atom.Atom.{Atom}
use Rattle.gv_facts.specs.declared.kinds.Level.{Level}
use Rattle.gv_facts.specs.declared.pkg.Pkg.{Pkg}
use Rattle.gv_facts.specs.declared.profile.Profile.{Profile}
use Rattle.gv_facts.specs.Visible.{matches_pkg, visible}

-- the package matches and is visible
abbrev pub shows : Profile → Level → Atom → Pkg → Bool
shows profile level a p = matches_pkg a p && visible p profile level

-- the package, where it matches and is visible
abbrev pub if_shown : Profile → Level → Atom → Option Pkg → Option Pkg
if_shown profile level a None = None
if_shown profile level a (Some p) = if shows profile level a p then Some p else None

-- and the one at a place
abbrev pub shown_at : Profile → Level → Atom → List Pkg → ℕ → Option Pkg
shown_at profile level a pkgs place = if_shown profile level a (slice_get pkgs place)

-- of each package whether it is visible
abbrev pub are_visible : Profile → Level → List Pkg → List Bool
are_visible profile level pkgs = map (λ p. visible p profile level) pkgs

-- the number isn't below another
abbrev pub is_from : (from : ℕ) → ℕ → Bool
is_from from n = not (nat_lt n from)
