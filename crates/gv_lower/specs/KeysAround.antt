-- For the contracts of private functions: keys as the code makes them, from sites.
use Rattle.std.specs.Prelude.{◌≡◌, ℕ, if◌then◌else◌, List, [], ◌∷◌, ◌++◌, map, flat_map, Option, None, Some, slice_get}
use Rattle.std.specs.List.{AllByRecursion}
use Rattle.gv_facts.specs.States.{state}
use Rattle.gv_facts.specs.Visible.{visible}
use Rattle.gv_facts.specs.declared.kinds.FlagState.{FlagState}
use Rattle.gv_facts.specs.declared.kinds.Level.{Level}
use Rattle.gv_facts.specs.declared.pkg.Pkg.{Pkg}
use Rattle.gv_facts.specs.declared.profile.Profile.{Profile}
use Rattle.gv_usestate.specs.Kinds.{IsKind}
use Rattle.gv_lower.specs.Keys.{other_key, own_key}
use Rattle.gv_lower.specs.Sites.{KnownFlag, PlaceSite}

-- what is known of the flags of a package is so in the profile
abbrev pub AreKnown : Profile → Pkg → List KnownFlag → Type 0
AreKnown profile p flags = AllByRecursion (λ k. IsKind profile p k.flag k.kind) flags

-- so of those of the package at a place
abbrev pub IsKnownAt : Profile → List Pkg → PlaceSite → Type 0
IsKnownAt profile pkgs site = (p : Pkg) → slice_get pkgs site.place ≡ Some p → AreKnown profile p site.flags

-- the states of these flags, as far as they count of the parent's
abbrev pub own_keys : (states : List ℕ → FlagState) → List KnownFlag → List ℕ
own_keys states flags = map (λ k. own_key (states k.flag)) flags

-- and of a candidate's
abbrev pub other_keys : (states : List ℕ → FlagState) → List KnownFlag → List ℕ
other_keys states flags = map (λ k. other_key (states k.flag)) flags

-- of what is found at a place, where it is visible
abbrev pub found_key : Profile → Level → List KnownFlag → Option Pkg → List ℕ
found_key profile level flags None = []
found_key profile level flags (Some p) = if visible p profile level then 1 ∷ other_keys (state p profile level) flags else []

abbrev pub place_key : Profile → Level → List Pkg → PlaceSite → List ℕ
place_key profile level pkgs site = found_key profile level site.flags (slice_get pkgs site.place)

-- of all places of an atom, and the mark at the end
abbrev pub site_key : Profile → Level → List Pkg → List PlaceSite → List ℕ
site_key profile level pkgs sites = flat_map (place_key profile level pkgs) sites ++ 0 ∷ []

-- these bytes begin with those
abbrev pub Begins : List ℕ → List ℕ → Type 0
Begins these more = (rest : List ℕ) × (more ≡ these ++ rest)
