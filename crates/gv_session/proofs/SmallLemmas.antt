-- The edits behind those that were seen, one after another.
use Rattle.std.proofs.Common.{◌≡◌, ℕ, zero, suc, ◌+◌, ◌≤◌, ◌<◌, Bool, true, false, ◌&&◌, List, [], ◌∷◌, ◌++◌, length, refl, sym, ap, ◌∙◌, Some, None, append_assoc, append-nil, arith}
use Rattle.std.specs.Prelude.{Option, option_map, slice_get}
use Rattle.std.proofs.lemmas.Bool.{false≢true}
use Rattle.std.specs.List.{list_all}
use Rattle.gv_edits.specs.Edits.{edit_path}
use Rattle.gv_edits.specs.declared.edit.Edit.{Edit}
use Rattle.gv_load.specs.declared.loading.Folders.{Folders}
use Rattle.gv_session.specs.Due.{is_small, new_paths}
use Rattle.gv_session.specs.Small.{AreSmall, AreUpTo}

-- an edit that is there has a path
abbrev is_path : Option (List ℕ) → Bool
is_path None = false
is_path (Some path) = true

pub not_there : (edits : List Edit) (place : ℕ) → place < length edits → option_map edit_path (slice_get edits place) ≡ None → ⊥
not_there [] place few e = absurd (omega (arith, few))
not_there (d ∷ ds) zero few e = absurd (false≢true (ap is_path (sym e)))
not_there (d ∷ ds) (suc n) few e = not_there ds n (omega (arith, few)) e

-- the path of an edit comes before those of the edits behind it
next_path : (edits : List Edit) (n : ℕ) (path : List ℕ) → option_map edit_path (slice_get edits n) ≡ Some path → new_paths edits n ≡ path ∷ new_paths edits (suc n)
next_path [] n path e = cc
next_path (d ∷ ds) zero path e = cc
next_path (d ∷ ds) (suc n) path e = next_path ds n path e

none_left : (edits : List Edit) (n : ℕ) → length edits ≤ n → new_paths edits n ≡ []
none_left [] zero e = refl
none_left [] (suc n) e = refl
none_left (d ∷ ds) zero e = absurd (omega (arith, e))
none_left (d ∷ ds) (suc n) e = none_left ds n (omega (arith, e))

next_from : (edits : List Edit) (n : ℕ) (path : List ℕ) → option_map edit_path (slice_get edits n) ≡ Some path → new_paths edits n ≡ path ∷ new_paths edits (n + 1)
next_from edits n path e = next_path edits n path e ∙ ap (λ m. path ∷ new_paths edits m) (one_behind n)
  where
    one_behind : (n : ℕ) → suc n ≡ n + 1
    one_behind n = omega (arith)

module _ (folders : Folders) (edits : List Edit) (seen : ℕ) where
  pub none_yet : AreUpTo folders edits seen seen []
  none_yet = record { paths = refl; small = refl }

  module _ (place : ℕ) (these : List (List ℕ)) (up : AreUpTo folders edits seen place these) where
    module _ (path : List ℕ) (here : option_map edit_path (slice_get edits place) ≡ Some path) where
      first : list_all (is_small folders) (new_paths edits seen) ≡ (is_small folders path && list_all (is_small folders) (new_paths edits (place + 1)))
      first = sym up.small ∙ ap (list_all (is_small folders)) (next_from edits place path here)

      pub one_more : is_small folders path ≡ true → AreUpTo folders edits seen (place + 1) (these ++ path ∷ [])
      one_more small = record {
        paths = append_assoc these (path ∷ []) (new_paths edits (place + 1)) ∙ ap (λ ps. these ++ ps) (sym (next_from edits place path here)) ∙ up.paths;
        small = sym (first ∙ ap (λ b. b && list_all (is_small folders) (new_paths edits (place + 1))) small);
      }

      pub one_large : is_small folders path ≡ false → AreSmall folders (new_paths edits seen) None
      one_large large = first ∙ ap (λ b. b && list_all (is_small folders) (new_paths edits (place + 1))) large

    pub all_small : length edits ≤ place → AreSmall folders (new_paths edits seen) (Some these)
    all_small end_ =
        let none = none_left edits place end_ in
        (sym (append-nil these) ∙ ap (λ ps. these ++ ps) (sym none) ∙ up.paths, sym up.small ∙ ap (list_all (is_small folders)) none)
