-- Packages that are looked up by name.
use Rattle.std.specs.Prelude.{◌≡◌, ℕ, Bool, List, Some, slice_get, true, false}
use Rattle.std.specs.Option.{option_map_or}
use Rattle.gv_atom.specs.declared.atom.Atom.{Atom}
use Rattle.gv_facts.specs.declared.pkg.Pkg.{Pkg}
use Rattle.gv_facts.specs.Places.{is_pkg_of}
use Rattle.gv_facts.specs.Visible.{matches_pkg}

-- what stands at the place has this category and name
abbrev pub IsNamedAt : (category name : List ℕ) → List Pkg → ℕ → Type 0
IsNamedAt category name pkgs place = (pkg : Pkg) → slice_get pkgs place ≡ Some pkg → is_pkg_of category name pkg ≡ true

-- the atom matches the package at the place
abbrev pub matches_at : Atom → List Pkg → ℕ → Bool
matches_at atom pkgs place = option_map_or (matches_pkg atom) (slice_get pkgs place) false
