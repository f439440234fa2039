-- Some mask matches a package where one of its category and name does.
use Rattle.std.proofs.Common.{◌≡◌, ℕ, Bool, true, false, ◌&&◌, ◌||◌, List, [], ◌∷◌, Some, refl, sym, ap, map, ◌∙◌}
use Rattle.std.specs.Prelude.{Option, filter, slice_get}
use Rattle.std.specs.List.{list_any}
use Rattle.std.specs.Option.{option_map_or}
use Rattle.std.specs.Str.{bytes_eq}
use Rattle.std.proofs.lemmas.Map.Views.{any-filter_same}
use Rattle.gv_facts.specs.declared.masks.Mask.{Mask}
use Rattle.gv_facts.specs.declared.pkg.Pkg.{Pkg}
use Rattle.gv_facts.specs.Places.{is_mask_of}
use Rattle.gv_facts.specs.Visible.{is_masked, matches_pkg}
use Rattle.gv_visible.specs.MaskIndex.{matches_at}

pub front_two : (a b c : Bool) → (a && (b && c)) ≡ true → (a && b) ≡ true
front_two true true c h = refl
front_two true false c h = h
front_two false b c h = h

any_map : {A B : Type 0} (test : B → Bool) (f : A → B) (xs : List A) → list_any test (map f xs) ≡ list_any (λ x. test (f x)) xs
any_map test f [] = refl
any_map test f (x ∷ xs) = ap (λ r. test (f x) || r) (any_map test f xs)

pub at_places : (p : Pkg) (masks : List Mask) (places : List ℕ) → map (slice_get masks) places ≡ map Some (filter (is_mask_of p.category p.name) masks)
    → list_any (matches_at p masks) places ≡ is_masked p masks
at_places p masks places items =
    sym (any_map found (slice_get masks) places)
    ∙ ap (list_any found) items
    ∙ any_map found Some (filter (is_mask_of p.category p.name) masks)
    ∙ any-filter_same (λ m. matches_pkg m.atom p) (is_mask_of p.category p.name) true of_name masks
  where
    found : Option Mask → Bool
    found o = option_map_or (λ m. matches_pkg m.atom p) o false

    of_name : (m : Mask) → matches_pkg m.atom p ≡ true → is_mask_of p.category p.name m ≡ true
    of_name m = front_two (bytes_eq m.atom.category p.category) (bytes_eq m.atom.name p.name) _
