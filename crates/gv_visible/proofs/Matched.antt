-- What an atom matches has its category and name, so the places of these packages are enough.
use Rattle.std.proofs.Common.{◌≡◌, ℕ, Bool, true, false, ◌&&◌, ◌||◌, List, [], ◌∷◌, map, filter, refl, sym, ap, ◌∙◌, Option, Some}
use Rattle.std.specs.Prelude.{slice_get}
use Rattle.std.specs.List.{list_any}
use Rattle.std.specs.Option.{option_map_or}
use Rattle.std.specs.Str.{bytes_eq}
use Rattle.std.proofs.lemmas.Bool.{false≢true}
use Rattle.gv_atom.specs.declared.atom.Atom.{Atom}
use Rattle.gv_facts.specs.Places.{is_pkg_of, places_of}
use Rattle.gv_facts.specs.Visible.{matches_pkg}
use Rattle.gv_facts.specs.declared.pkg.Pkg.{Pkg}
use Rattle.gv_visible.specs.NamedPkgs.{matches_at}
use Rattle.gv_visible.proofs.Placed.{items_at}

front_two : (a b c : Bool) → (a && (b && c)) ≡ true → (a && b) ≡ true
front_two true true c h = refl
front_two true false c h = h
front_two false b c h = h

any_map : {A B : Type 0} (test : B → Bool) (f : A → B) (xs : List A) → list_any test (map f xs) ≡ list_any (λ x. test (f x)) xs
any_map test f [] = refl
any_map test f (x ∷ xs) = ap (λ r. test (f x) || r) (any_map test f xs)

any_among : {A : Type 0} (test other : A → Bool) → ((x : A) → test x ≡ true → other x ≡ true) → (xs : List A) → list_any test (filter other xs) ≡ list_any test xs
any_among test other only [] = refl
any_among test other only (x ∷ xs) = by (other x) refl (test x) refl (any_among test other only xs)
  where
    by : (b : Bool) → other x ≡ b → (c : Bool) → test x ≡ c → list_any test (filter other xs) ≡ list_any test xs → list_any test (filter other (x ∷ xs)) ≡ list_any test (x ∷ xs)
    by true e c f rest = rw e (ap (λ r. test x || r) rest)
    by false e true f rest = absurd (false≢true (sym e ∙ only x f))
    by false e false f rest = rw (e, f) rest

at_places : (atom : Atom) (pkgs : List Pkg) (places : List ℕ) → map (slice_get pkgs) places ≡ map Some (filter (is_pkg_of atom.category atom.name) pkgs)
    → list_any (matches_at atom pkgs) places ≡ list_any (matches_pkg atom) pkgs
at_places atom pkgs places items =
    sym (any_map found (slice_get pkgs) places)
    ∙ (ap (list_any found) items
    ∙ (any_map found Some (filter (is_pkg_of atom.category atom.name) pkgs)
    ∙ any_among (matches_pkg atom) (is_pkg_of atom.category atom.name) of_name pkgs))
  where
    found : Option Pkg → Bool
    found o = option_map_or (matches_pkg atom) o false

    of_name : (p : Pkg) → matches_pkg atom p ≡ true → is_pkg_of atom.category atom.name p ≡ true
    of_name p = front_two (bytes_eq atom.category p.category) (bytes_eq atom.name p.name) _

pub at_named : (atom : Atom) (pkgs : List Pkg) → list_any (matches_at atom pkgs) (places_of (is_pkg_of atom.category atom.name) pkgs) ≡ list_any (matches_pkg atom) pkgs
at_named atom pkgs = at_places atom pkgs (places_of (is_pkg_of atom.category atom.name) pkgs) (items_at (is_pkg_of atom.category atom.name) pkgs)
