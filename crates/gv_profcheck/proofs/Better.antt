-- The first version that makes one needless, by the places of those of its name.
use Rattle.std.proofs.Common.{◌≡◌, ℕ, Bool, true, false, ◌&&◌, List, [], ◌∷◌, map, filter, Some, None, refl, sym, ap, subst, ◌∙◌, cond}
use Rattle.std.specs.Prelude.{if◌then◌else◌, Option, slice_get}
use Rattle.std.specs.List.{cons_option, filter_map, find}
use Rattle.gv_facts.specs.Places.{is_pkg_of}
use Rattle.gv_facts.specs.declared.pkg.Pkg.{Pkg}
use Rattle.gv_profcheck.specs.Redundant.{betters, makes_needless}

module _ {A : Type 0} where
  given : (xs : List A) → filter_map (λ (o : Option A). o) (map Some xs) ≡ xs
  given [] = refl
  given (x ∷ xs) = ap (λ l. x ∷ l) (given xs)

  there : (of : ℕ → Option A) (places : List ℕ) → filter_map of places ≡ filter_map (λ (o : Option A). o) (map of places)
  there of [] = refl
  there of (n ∷ ns) = ap (cons_option (of n)) (there of ns)

  found : (one two : A → Bool) (xs : List A) → find two (filter one xs) ≡ find (λ x. one x && two x) xs
  found one two [] = refl
  found one two (x ∷ xs) = by (one x) (found one two xs)
    where
      by : (a : Bool) → find two (filter one xs) ≡ find (λ y. one y && two y) xs
          → find two (cond a (x ∷ filter one xs) (filter one xs)) ≡ cond (a && two x) (Some x) (find (λ y. one y && two y) xs)
      by true h = ap (λ r. cond (two x) (Some x) r) h
      by false h = h

pub first_of : (p : Pkg) (pkgs : List Pkg) (places : List ℕ) → map (slice_get pkgs) places ≡ map Some (filter (is_pkg_of p.category p.name) pkgs) →
    find (betters p) (filter_map (slice_get pkgs) places) ≡ find (makes_needless p) pkgs
first_of p pkgs places items =
    ap (find (betters p)) (there (slice_get pkgs) places ∙ ap (filter_map (λ (o : Option Pkg). o)) items ∙ given (filter (is_pkg_of p.category p.name) pkgs))
    ∙ found (is_pkg_of p.category p.name) (betters p) pkgs

-- by items, a category and a name that are their own
pub first_named : (p : Pkg) (all pkgs : List Pkg) (places : List ℕ) (category name : List ℕ) → all ≡ pkgs → category ≡ p.category → name ≡ p.name →
    map (slice_get pkgs) places ≡ map Some (filter (is_pkg_of category name) pkgs) → find (betters p) (filter_map (slice_get all) places) ≡ find (makes_needless p) pkgs
first_named p all pkgs places category name is of_category of_name items =
    ap (λ (xs : List Pkg). find (betters p) (filter_map (slice_get xs) places)) is
    ∙ first_of p pkgs places (subst (λ (n : List ℕ). map (slice_get pkgs) places ≡ map Some (filter (is_pkg_of p.category n) pkgs)) of_name
    (subst (λ (k : List ℕ). map (slice_get pkgs) places ≡ map Some (filter (is_pkg_of k name) pkgs)) of_category items))
