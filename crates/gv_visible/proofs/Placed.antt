-- What stands at the places of the items that pass a test.
use Rattle.std.proofs.Common.{◌≡◌, ℕ, ◌+◌, Bool, true, false, cond, List, [], ◌∷◌, ◌++◌, length, Some, map, arith, refl, sym, ap, subst, ◌∙◌, append_assoc, length-append}
use Rattle.std.specs.Prelude.{None, Option, filter, if◌then◌else◌, slice_get, unwrap_or}
use Rattle.std.specs.List.{AllByRecursion, cons_option, filter_map}
use Rattle.std.specs.Str.{bytes_eq}
use Rattle.std.proofs.lemmas.Bool.{false≢true}
use Rattle.gv_atom.specs.declared.atom.Atom.{Atom}
use Rattle.gv_facts.specs.declared.kinds.Level.{Level}
use Rattle.gv_facts.specs.declared.pkg.Pkg.{Pkg}
use Rattle.gv_facts.specs.declared.profile.Profile.{Profile}
use Rattle.gv_facts.specs.Places.{is_pkg_of, places_from, places_of}
use Rattle.gv_visible.specs.NamedPkgs.{IsNamedAt}
use Rattle.gv_visible.specs.VisiblePkgs.{if_shown, shown_at, shows}
use Rattle.gv_visible.proofs.NextPlaces.{front_three}

module _ {X : Type 0} (test : X → Bool) where
  at_length : (front : List X) (x : X) (xs : List X) → slice_get (front ++ x ∷ xs) (length front) ≡ Some x
  at_length [] x xs = refl
  at_length (y ∷ front) x xs = at_length front x xs

  items_from : (front xs : List X) → map (slice_get (front ++ xs)) (places_from (length front) test xs) ≡ map Some (filter test xs)
  items_from front [] = refl
  items_from front (x ∷ xs) = by (test x) (at_length front x xs) (shifted (items_from (front ++ x ∷ []) xs))
    where
      shifted : map (slice_get ((front ++ x ∷ []) ++ xs)) (places_from (length (front ++ x ∷ [])) test xs) ≡ map Some (filter test xs)
          → map (slice_get (front ++ x ∷ xs)) (places_from (length front + 1) test xs) ≡ map Some (filter test xs)
      shifted h =
          let whole : (front ++ x ∷ []) ++ xs ≡ front ++ x ∷ xs = append_assoc front (x ∷ []) xs in
          let one_more : length (front ++ x ∷ []) ≡ length front + 1 = omega (arith, length-append front (x ∷ [])) in
          rw (whole, one_more) at h

      by : (b : Bool) → slice_get (front ++ x ∷ xs) (length front) ≡ Some x
          → map (slice_get (front ++ x ∷ xs)) (places_from (length front + 1) test xs) ≡ map Some (filter test xs)
          → map (slice_get (front ++ x ∷ xs)) (if b then length front ∷ places_from (length front + 1) test xs else places_from (length front + 1) test xs)
          ≡ map Some (cond b (x ∷ filter test xs) (filter test xs))
      by true here h = rw (here, h) refl
      by false here h = h

  pub items_at : (xs : List X) → map (slice_get xs) (places_of test xs) ≡ map Some (filter test xs)
  items_at xs = items_from [] xs

some_same : {X : Type 0} (x y : X) → Some x ≡ Some y → x ≡ y
some_same x y e = ap (λ o. unwrap_or o x) e

-- what stands at these places passes
module _ {X : Type 0} (test : X → Bool) where
  passes_from : (front xs : List X) → AllByRecursion (λ p. (y : X) → slice_get (front ++ xs) p ≡ Some y → test y ≡ true) (places_from (length front) test xs)
  passes_from front [] = tt
  passes_from front (x ∷ xs) = by (test x) refl (shifted (passes_from (front ++ x ∷ []) xs))
    where
      Passes : ℕ → Type 0
      Passes p = (y : X) → slice_get (front ++ x ∷ xs) p ≡ Some y → test y ≡ true

      shifted : AllByRecursion (λ p. (y : X) → slice_get ((front ++ x ∷ []) ++ xs) p ≡ Some y → test y ≡ true) (places_from (length (front ++ x ∷ [])) test xs)
          → AllByRecursion Passes (places_from (length front + 1) test xs)
      shifted h =
          let whole : (front ++ x ∷ []) ++ xs ≡ front ++ x ∷ xs = append_assoc front (x ∷ []) xs in
          let one_more : length (front ++ x ∷ []) ≡ length front + 1 = omega (arith, length-append front (x ∷ [])) in
          rw (whole, one_more) at h

      by : (b : Bool) → test x ≡ b → AllByRecursion Passes (places_from (length front + 1) test xs)
          → AllByRecursion Passes (if b then length front ∷ places_from (length front + 1) test xs else places_from (length front + 1) test xs)
      by true e h = (λ y there. subst (λ z. test z ≡ true) (some_same x y (sym (at_length test front x xs) ∙ there)) e, h)
      by false e h = h

pub all_named : (category name : List ℕ) (pkgs : List Pkg) → AllByRecursion (IsNamedAt category name pkgs) (places_of (is_pkg_of category name) pkgs)
all_named category name pkgs = passes_from (is_pkg_of category name) [] pkgs

filter_map-map : {A B C : Type 0} (g : B → Option C) (f : A → B) (xs : List A) → filter_map g (map f xs) ≡ filter_map (λ x. g (f x)) xs
filter_map-map g f [] = refl
filter_map-map g f (x ∷ xs) = ap (cons_option (g (f x))) (filter_map-map g f xs)

of_both : {X : Type 0} (test first : X → Bool) → ((x : X) → test x ≡ true → first x ≡ true) → (xs : List X) → filter test (filter first xs) ≡ filter test xs
of_both test first implied [] = refl
of_both test first implied (x ∷ xs) = by (test x) (first x) refl (implied x) (of_both test first implied xs)
  where
    by : (b c : Bool) → test x ≡ b → (b ≡ true → c ≡ true) → filter test (filter first xs) ≡ filter test xs
        → filter test (cond c (x ∷ filter first xs) (filter first xs)) ≡ cond b (x ∷ filter test xs) (filter test xs)
    by true true is i h = rw is (ap (λ r. x ∷ r) h)
    by true false is i h = absurd (false≢true (i refl))
    by false true is i h = rw is h
    by false false is i h = h

module _ (profile : Profile) (level : Level) (a : Atom) where
  of_shown : (ps : List Pkg) → filter_map (if_shown profile level a) (map Some ps) ≡ filter (shows profile level a) ps
  of_shown [] = refl
  of_shown (p ∷ ps) = by (shows profile level a p) (of_shown ps)
    where
      by : (b : Bool) → filter_map (if_shown profile level a) (map Some ps) ≡ filter (shows profile level a) ps
          → cons_option (if b then Some p else None) (filter_map (if_shown profile level a) (map Some ps)) ≡ cond b (p ∷ filter (shows profile level a) ps) (filter (shows profile level a) ps)
      by true h = ap (λ r. p ∷ r) h
      by false h = h

  named : (p : Pkg) → shows profile level a p ≡ true → is_pkg_of a.category a.name p ≡ true
  named p = front_three (bytes_eq a.category p.category) (bytes_eq a.name p.name) _ _

  pub shown_there : (pkgs : List Pkg) → filter_map (shown_at profile level a pkgs) (places_of (is_pkg_of a.category a.name) pkgs) ≡ filter (shows profile level a) pkgs
  shown_there pkgs =
      sym (filter_map-map (if_shown profile level a) (slice_get pkgs) (places_of (is_pkg_of a.category a.name) pkgs))
      ∙ ap (filter_map (if_shown profile level a)) (items_at (is_pkg_of a.category a.name) pkgs)
      ∙ of_shown (filter (is_pkg_of a.category a.name) pkgs)
      ∙ of_both (shows profile level a) (is_pkg_of a.category a.name) named pkgs
