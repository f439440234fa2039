-- Two maps of files that differ at some paths alone.
use Rattle.std.proofs.Common.{◌≡◌, ℕ, List, [], ◌∷◌, ◌++◌, Bool, true, false, ◌&&◌, ◌||◌, Some, None, refl, sym, ap, ◌∙◌}
use Rattle.std.specs.Prelude.{Option}
use Rattle.std.specs.List.{filter_map}
use Rattle.std.specs.Option.{is_some}
use Rattle.std.specs.FinMap.{get, keys}
use Rattle.std.specs.Cmp.{both_ways}
use Rattle.gv_base.specs.FileMap.{FileMap}
use Rattle.gv_base.specs.Folders.{folder_from, folder_to, is_one, name_stands, within_within, stands}
use Rattle.gv_base.specs.Laws.{InOrderLaw}
use Rattle.gv_base.specs.Listing.{is_folder, names_below, next_part}
use Rattle.gv_base.specs.Order.{has_text}
use Rattle.gv_base.specs.Outside.{found_as, found_at}
use Rattle.gv_reading.specs.Paths.{within}
use Rattle.gv_reading.specs.Look.{bytes_at, bytes_in, look_of}

pub name_below : InOrderLaw → (m : FileMap) (path name : List ℕ) → has_text (names_below m path) name ≡ (is_one name && stands m (within path name))
name_below law m path name = sym (law.members (filter_map (next_part path) (keys m)) name) ∙ name_stands m path name

bytes_as : (o : Option (List ℕ)) (b : Bool) → bytes_in (found_as o b) ≡ o
bytes_as None true = refl
bytes_as None false = refl
bytes_as (Some bytes) b = refl

pub bytes_are : (m : FileMap) (path : List ℕ) → bytes_at (look_of m) path ≡ get m path
bytes_are m path = bytes_as (get m path) (is_folder m path)

-- ---- two maps that differ at these paths alone
module _ (paths : List (List ℕ)) (files files' : FileMap) (same : (path : List ℕ) → has_text paths path ≡ false → get files' path ≡ get files path) where
  -- none of them lies below this path
  abbrev pub IsClear : List ℕ → Type 0
  IsClear path = (rest : List ℕ) → has_text paths (within path rest) ≡ false

  pub folder_same : (path : List ℕ) → IsClear path → is_folder files' path ≡ is_folder files path
  folder_same path clear = both_ways (is_folder files' path) (is_folder files path)
      (λ h. let r = folder_from files' path h in folder_to files path r.0 (sym (ap is_some (same (within path r.0) (clear r.0))) ∙ r.1))
      (λ h. let r = folder_from files path h in folder_to files' path r.0 (ap is_some (same (within path r.0) (clear r.0)) ∙ r.1))

  pub found_same : (path : List ℕ) → has_text paths path ≡ false → IsClear path → found_at files' path ≡ found_at files path
  found_same path other clear = ap (λ (o : Option (List ℕ)). found_as o (is_folder files' path)) (same path other) ∙ ap (found_as (get files path)) (folder_same path clear)

  pub bytes_same : (path : List ℕ) → has_text paths path ≡ false → bytes_at (look_of files') path ≡ bytes_at (look_of files) path
  bytes_same path other = bytes_are files' path ∙ same path other ∙ sym (bytes_are files path)

  clear_within : (path name : List ℕ) → IsClear path → IsClear (within path name)
  clear_within path name clear rest = ap (has_text paths) (sym (within_within path name rest)) ∙ clear (name ++ 47 ∷ rest)

  stands_same : (path name : List ℕ) → IsClear path → stands files' (within path name) ≡ stands files (within path name)
  stands_same path name clear =
      ap (λ (o : Option (List ℕ)). is_some o || is_folder files' (within path name)) (same (within path name) (clear name))
      ∙ ap (λ b. is_some (get files (within path name)) || b) (folder_same (within path name) (clear_within path name clear))

  pub names_same : InOrderLaw → (path : List ℕ) → IsClear path → names_below files' path ≡ names_below files path
  names_same law path clear =
      law.same (filter_map (next_part path) (keys files')) (filter_map (next_part path) (keys files))
      (λ name. name_stands files' path name ∙ ap (λ b. is_one name && b) (stands_same path name clear) ∙ sym (name_stands files path name))
