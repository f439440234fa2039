-- For the contracts of private functions: masks by their places.
use Rattle.std.specs.Prelude.{ℕ, Bool, false, List, slice_get}
use Rattle.std.specs.Option.{option_map_or}
use Rattle.gv_facts.specs.declared.masks.Mask.{Mask}
use Rattle.gv_facts.specs.declared.pkg.Pkg.{Pkg}
use Rattle.gv_facts.specs.Visible.{matches_pkg}

-- whether the mask at a place matches the package
abbrev pub matches_at : Pkg → List Mask → ℕ → Bool
matches_at p masks place = option_map_or (λ m. matches_pkg m.atom p) (slice_get masks place) false
