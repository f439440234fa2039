-- A package is looked for among those of its name alone.
use Rattle.std.proofs.Common.{◌≡◌, ℕ, ◌+◌, Bool, true, false, ◌&&◌, if◌then◌else◌, List, [], ◌∷◌, map, filter, refl, sym, ap, ◌∙◌, Option, Some}
use Rattle.std.proofs.lemmas.Bool.{false≢true}
use Rattle.std.proofs.lemmas.Map.Text.{is_eq-slice_cmp}
use Rattle.std.proofs.lemmas.Slice.Eq.{bytes_eq-Decides}
use Rattle.std.specs.Prelude.{slice_get}
use Rattle.std.specs.List.{list_any}
use Rattle.std.specs.Option.{option_map_or}
use Rattle.std.specs.Ordering.{eq_by_cmp, is_eq, ordering_then}
use Rattle.std.specs.Str.{bytes_eq}
use Rattle.std.specs.declared.cmp.Ordering.{Ordering}
use Rattle.std.specs.declared.cmp.Ordering.TheVariants.{Less, Equal, Greater}
use Rattle.gv_base.specs.Order.{byte_cmp}
use Rattle.gv_version.specs.Order.{compare}
use Rattle.gv_facts.specs.Places.{is_pkg_of, places_from, places_of}
use Rattle.gv_facts.specs.declared.kinds.Class.{Class}
use Rattle.gv_facts.specs.declared.pkg.Pkg.{Pkg}
use Rattle.gv_report.specs.Order.{subject_cmp}
use Rattle.gv_report.specs.declared.report.Subject.{Subject}
use Rattle.gv_report.specs.declared.report.Subject.TheVariants.{Package, Place}
use Rattle.gv_plain.specs.PlainReports.{subject_of}
use Rattle.gv_renew.specs.Touched.{is_stale_among, is_stale_at, is_stale_place, mentions_at, pkg_at}
use Rattle.gv_renew.specs.declared.touched.Touched.{Touched}
use Rattle.gv_plain.specs.Lists.{any_among, any_map, items_from}

-- equal subjects have one category and name
pub both_equal : (a b : Ordering) → is_eq (ordering_then a b) ≡ true → (is_eq a ≡ true) × (is_eq b ≡ true)
both_equal Equal b h = (refl, h)
both_equal Less b h = absurd (false≢true h)
both_equal Greater b h = absurd (false≢true h)

equal_bytes : (a b : List ℕ) → is_eq (byte_cmp a b) ≡ true → bytes_eq b a ≡ true
equal_bytes a b h = (bytes_eq-Decides b a).1 (sym ((bytes_eq-Decides a b).0 (sym (is_eq-slice_cmp a b) ∙ h)))

and_true : (a b : Bool) → a ≡ true → b ≡ true → (a && b) ≡ true
and_true a b e f = rw (e, f) refl

pub of_name : (p : Pkg) (c n v f : List ℕ) → eq_by_cmp subject_cmp (subject_of p) (Package c n v f) ≡ true → is_pkg_of c n p ≡ true
of_name p c n v f h =
    let first = both_equal (byte_cmp p.category c) (ordering_then (byte_cmp p.name n) (ordering_then (compare p.version v) (byte_cmp p.pf f))) h in
    let second = both_equal (byte_cmp p.name n) (ordering_then (compare p.version v) (byte_cmp p.pf f)) first.1 in
    and_true (bytes_eq c p.category) (bytes_eq n p.name) (equal_bytes p.category c first.0) (equal_bytes p.name n second.0)

-- no package is at a place of a file
pub place_stale : (path : List ℕ) (line : ℕ) (class : Class) (ts : List Touched) → is_stale_among ts (Place path line) class ≡ false
place_stale path line class [] = refl
place_stale path line class (t ∷ ts) = place_stale path line class ts

front_true : (a b : Bool) → (a && b) ≡ true → a ≡ true
front_true true b h = refl
front_true false b h = h

-- the places of what is made of items
pub places_map : {A B : Type 0} (test : B → Bool) (f : A → B) (n : ℕ) (xs : List A) → places_from n test (map f xs) ≡ places_from n (λ x. test (f x)) xs
places_map test f n [] = refl
places_map test f n (x ∷ xs) = ap (λ ns. if test (f x) then n ∷ ns else ns) (places_map test f (n + 1) xs)

module _ (c n v f : List ℕ) (class : Class) (ts : List Touched) where
  abbrev is_here : Touched → Bool
  is_here t = is_pkg_of c n (pkg_at t)

  abbrev subject : Subject
  subject = Package c n v f

  abbrev found : Option Touched → Bool
  found o = option_map_or (is_stale_at subject class) o false

  of_here : (t : Touched) → is_stale_at subject class t ≡ true → is_here t ≡ true
  of_here t h = of_name t.pkg.now c n v f (front_true (eq_by_cmp subject_cmp (subject_of t.pkg.now) subject) (mentions_at t class) h)

  at_places : (places : List ℕ) → map (slice_get ts) places ≡ map Some (filter is_here ts) → list_any (is_stale_place subject class ts) places ≡ is_stale_among ts subject class
  at_places places items =
      sym (any_map found (slice_get ts) places)
      ∙ (ap (list_any found) items
      ∙ (any_map found Some (filter is_here ts)
      ∙ any_among (is_stale_at subject class) is_here of_here ts))

  pub stale_among : (pkgs : List Pkg) → pkgs ≡ map pkg_at ts → list_any (is_stale_place subject class ts) (places_of (is_pkg_of c n) pkgs) ≡ is_stale_among ts subject class
  stale_among pkgs e =
      ap (λ ps. list_any (is_stale_place subject class ts) (places_of (is_pkg_of c n) ps)) e
      ∙ (ap (list_any (is_stale_place subject class ts)) (places_map (is_pkg_of c n) pkg_at 0 ts)
      ∙ at_places (places_of is_here ts) (items_from is_here [] ts))
