-- A word of private contracts alone, no rule: whether the package at a place is shown.
use Rattle.std.specs.Prelude.{ℕ, Bool, false, List, slice_get}
use Rattle.std.specs.Option.{option_map_or}
use Rattle.gv_atom.specs.declared.atom.Atom.{Atom}
use Rattle.gv_facts.specs.declared.kinds.Level.{Level}
use Rattle.gv_facts.specs.declared.pkg.Pkg.{Pkg}
use Rattle.gv_facts.specs.declared.profile.Profile.{Profile}
use Rattle.gv_visible.specs.VisiblePkgs.{shows}

-- and the package at a place
abbrev pub shows_at : Profile → Level → Atom → List Pkg → ℕ → Bool
shows_at profile level a pkgs place = option_map_or (shows profile level a) (slice_get pkgs place) false
