-- For private contracts: packages that others of the same order place are put in the places of.
use Rattle.std.specs.Prelude.{ℕ, Bool, true, false, ◌&&◌, ◌==◌, List, [], ◌∷◌, length, filter, slice_get, slice_set}
use Rattle.std.specs.Option.{option_map_or}
use Rattle.std.specs.Ordering.{is_eq}
use Rattle.gv_facts.specs.Places.{places_of}
use Rattle.gv_facts.specs.declared.pkg.Pkg.{Pkg}
use Rattle.gv_reload.specs.EntryEdits.{is_edited_pkg}
use Rattle.gv_load.specs.Repository.{pkg_cmp}
use Rattle.gv_load.specs.declared.members.Packages.{Packages}

-- the package at the place ties with this one
abbrev pub is_at : List Pkg → ℕ → Pkg → Bool
is_at pkgs place p = option_map_or (λ q. is_eq (pkg_cmp p q)) (slice_get pkgs place) false

-- at the places stand packages that tie with these, one with each
abbrev pub are_at : List Pkg → (places : List ℕ) → List Pkg → Bool
are_at pkgs [] [] = true
are_at pkgs [] (p ∷ ps) = false
are_at pkgs (place ∷ places) [] = false
are_at pkgs (place ∷ places) (p ∷ ps) = is_at pkgs place p && are_at pkgs places ps

-- each of the others is put in its place
abbrev pub set_all : {A : Type 0} → List A → (places : List ℕ) → List A → List A
set_all xs [] ys = xs
set_all xs (place ∷ places) [] = xs
set_all xs (place ∷ places) (y ∷ ys) = set_all (slice_set xs place y) places ys

abbrev pub edited_places : (paths : List (List ℕ)) → List Pkg → List ℕ
edited_places paths pkgs = places_of (is_edited_pkg paths) pkgs

abbrev pub have_bodies : Packages → Bool
have_bodies packages = length packages.bodies == length packages.pkgs

-- each package has its body, and the edited ones of both tie
abbrev pub are_exchangeable : (paths : List (List ℕ)) → (old new : Packages) → Bool
are_exchangeable paths old new =
    (have_bodies old && have_bodies new) && are_at old.pkgs (edited_places paths old.pkgs) (filter (is_edited_pkg paths) new.pkgs)
