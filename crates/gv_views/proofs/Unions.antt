-- What the first of some folders has, and what lies below a path in any of them.
use Rattle.std.proofs.Common.{◌≡◌, ℕ, List, [], ◌∷◌, ◌++◌, Bool, true, false, ◌||◌, Some, None, refl, sym, ap, subst, ◌∙◌, inl, inr, ◌⊎◌, append_assoc}
use Rattle.std.specs.Prelude.{Option, flat_map, codes, if◌then◌else◌}
use Rattle.std.specs.List.{list_any}
use Rattle.std.specs.Option.{is_some}
use Rattle.std.specs.Cmp.{both_ways}
use Rattle.std.specs.FinMap.{get}
use Rattle.std.specs.Str.{bytes_eq}
use Rattle.std.proofs.lemmas.List.Folds.{list_any-append}
use Rattle.gv_base.specs.Cut.{up_to_first}
use Rattle.gv_base.specs.FileMap.{FileMap}
use Rattle.gv_base.specs.Laws.{InOrderLaw}
use Rattle.gv_base.specs.Listing.{is_folder, IsListing}
use Rattle.gv_base.specs.Order.{has_text, HaveSameTexts, IsAscending}
use Rattle.gv_base.specs.Outside.{found_as, found_at, IsLarge}
use Rattle.gv_base.specs.declared.tree.Found.TheVariants.{File, Dir, Absent}
use Rattle.gv_views.specs.declared.layers.Layers.{Layers}
use Rattle.gv_views.specs.Areas.{categories_path}
use Rattle.gv_views.specs.Told.{AreInOrderOf, IsTold, any_folder, all_parts, has_any, list_names, parts_below, parts_in, told_files}
use Rattle.gv_views.specs.Views.{all_files, file_in, first_file, inside, or_else}
use Rattle.gv_views.proofs.Folders.{folder_from, folder_to, inside_inside, name_from, name_to, or_cases, or_first, or_second}

-- ---- what is found, by its kind
pub found_file : (o : Option (List ℕ)) (b : Bool) (bytes : List ℕ) → File bytes ≡ found_as o b → o ≡ Some bytes
found_file (Some x) b bytes e = cc
found_file None true bytes e = cc
found_file None false bytes e = cc

pub found_dir : (o : Option (List ℕ)) (b : Bool) → Dir ≡ found_as o b → (o ≡ None) × (b ≡ true)
found_dir (Some x) b e = cc
found_dir None true e = (refl, refl)
found_dir None false e = cc

pub found_absent : (o : Option (List ℕ)) (b : Bool) → Absent ≡ found_as o b → (o ≡ None) × (b ≡ false)
found_absent (Some x) b e = cc
found_absent None true e = cc
found_absent None false e = (refl, refl)

-- ---- reading folder by folder: what is left says the same as all
module _ (m : FileMap) (folder path : List ℕ) (folders : List (List ℕ)) where
  pub first_here : (bytes : List ℕ) → File bytes ≡ found_at m (inside folder path) → first_file m (folder ∷ folders) path ≡ Some bytes
  first_here bytes e = ap (λ o. or_else o (first_file m folders path)) (found_file (get m (inside folder path)) (is_folder m (inside folder path)) bytes e)

  pub first_dir : Dir ≡ found_at m (inside folder path) → first_file m (folder ∷ folders) path ≡ first_file m folders path
  first_dir e = ap (λ o. or_else o (first_file m folders path)) (found_dir (get m (inside folder path)) (is_folder m (inside folder path)) e).0

  pub first_absent : Absent ≡ found_at m (inside folder path) → first_file m (folder ∷ folders) path ≡ first_file m folders path
  first_absent e = ap (λ o. or_else o (first_file m folders path)) (found_absent (get m (inside folder path)) (is_folder m (inside folder path)) e).0

  pub folder_dir : Dir ≡ found_at m (inside folder path) → any_folder m (folder ∷ folders) path ≡ true
  folder_dir e = ap (λ b. b || any_folder m folders path) (found_dir (get m (inside folder path)) (is_folder m (inside folder path)) e).1

  pub folder_absent : Absent ≡ found_at m (inside folder path) → any_folder m (folder ∷ folders) path ≡ any_folder m folders path
  folder_absent e = ap (λ b. b || any_folder m folders path) (found_absent (get m (inside folder path)) (is_folder m (inside folder path)) e).1

-- ---- all folders together
module _ (m : FileMap) (path : List ℕ) where
  first_any : (folders : List (List ℕ)) → is_some (first_file m folders path) ≡ list_any (λ folder. is_some (file_in m folder path)) folders
  first_any [] = refl
  first_any (folder ∷ folders) = by (file_in m folder path) (first_any folders)
    where
      by : (o : Option (List ℕ)) → is_some (first_file m folders path) ≡ list_any (λ f. is_some (file_in m f path)) folders
          → is_some (or_else o (first_file m folders path)) ≡ (is_some o || list_any (λ f. is_some (file_in m f path)) folders)
      by (Some x) r = refl
      by None r = r

-- one of them has a file that goes on with the path
abbrev pub Goes : FileMap → (folders : List (List ℕ)) → (path rest : List ℕ) → Type 0
Goes m folders path rest = is_some (first_file m folders (inside path rest)) ≡ true

goes_here : (m : FileMap) (folder : List ℕ) (folders : List (List ℕ)) (path rest : List ℕ) → is_some (get m (inside (inside folder path) rest)) ≡ true → Goes m (folder ∷ folders) path rest
goes_here m folder folders path rest h =
    first_any m (inside path rest) (folder ∷ folders)
    ∙ or_first (is_some (file_in m folder (inside path rest))) _ (ap (λ p. is_some (get m p)) (inside_inside folder path rest) ∙ h)

goes_later : (m : FileMap) (folder : List ℕ) (folders : List (List ℕ)) (path rest : List ℕ) → Goes m folders path rest → Goes m (folder ∷ folders) path rest
goes_later m folder folders path rest h =
    first_any m (inside path rest) (folder ∷ folders)
    ∙ or_second (is_some (file_in m folder (inside path rest))) _ (sym (first_any m (inside path rest) folders) ∙ h)

goes_cases : (m : FileMap) (folder : List ℕ) (folders : List (List ℕ)) (path rest : List ℕ) → Goes m (folder ∷ folders) path rest → (is_some (get m (inside (inside folder path) rest)) ≡ true) ⊎ Goes m folders path rest
goes_cases m folder folders path rest h = by (or_cases (is_some (file_in m folder (inside path rest))) _ (sym (first_any m (inside path rest) (folder ∷ folders)) ∙ h))
  where
    by : (is_some (file_in m folder (inside path rest)) ≡ true) ⊎ (list_any (λ f. is_some (file_in m f (inside path rest))) folders ≡ true) → (is_some (get m (inside (inside folder path) rest)) ≡ true) ⊎ Goes m folders path rest
    by (inl e) = inl (ap (λ p. is_some (get m p)) (sym (inside_inside folder path rest)) ∙ e)
    by (inr e) = inr (first_any m (inside path rest) folders ∙ e)

any_from : (m : FileMap) (folders : List (List ℕ)) (path : List ℕ) → any_folder m folders path ≡ true → (rest : List ℕ) × Goes m folders path rest
any_from m [] path h = cc
any_from m (folder ∷ folders) path h = by (or_cases (is_folder m (inside folder path)) (any_folder m folders path) h) (any_from m folders path)
  where
    by : (is_folder m (inside folder path) ≡ true) ⊎ (any_folder m folders path ≡ true) → (any_folder m folders path ≡ true → (rest : List ℕ) × Goes m folders path rest) → (rest : List ℕ) × Goes m (folder ∷ folders) path rest
    by (inl e) later = let r = folder_from m (inside folder path) e in (r.0, goes_here m folder folders path r.0 r.1)
    by (inr e) later = let r = later e in (r.0, goes_later m folder folders path r.0 r.1)

any_to : (m : FileMap) (folders : List (List ℕ)) (path rest : List ℕ) → Goes m folders path rest → any_folder m folders path ≡ true
any_to m [] path rest h = cc
any_to m (folder ∷ folders) path rest h = by (goes_cases m folder folders path rest h) (any_to m folders path rest)
  where
    by : (is_some (get m (inside (inside folder path) rest)) ≡ true) ⊎ Goes m folders path rest → (Goes m folders path rest → any_folder m folders path ≡ true) → any_folder m (folder ∷ folders) path ≡ true
    by (inl e) later = or_first (is_folder m (inside folder path)) (any_folder m folders path) (folder_to m (inside folder path) rest e)
    by (inr e) later = or_second (is_folder m (inside folder path)) (any_folder m folders path) (later e)

parts_from : (m : FileMap) (folders : List (List ℕ)) (path name : List ℕ) → has_text (all_parts m folders path) name ≡ true → (rest : List ℕ) × Goes m folders path rest × (up_to_first 47 rest ≡ name)
parts_from m [] path name h = cc
parts_from m (folder ∷ folders) path name h =
    by (or_cases (has_text (parts_in m path folder) name) (has_text (all_parts m folders path) name) (sym (list_any-append (bytes_eq name) (parts_in m path folder) (all_parts m folders path)) ∙ h)) (parts_from m folders path name)
  where
    by : (has_text (parts_in m path folder) name ≡ true) ⊎ (has_text (all_parts m folders path) name ≡ true)
        → (has_text (all_parts m folders path) name ≡ true → (rest : List ℕ) × Goes m folders path rest × (up_to_first 47 rest ≡ name))
        → (rest : List ℕ) × Goes m (folder ∷ folders) path rest × (up_to_first 47 rest ≡ name)
    by (inl e) later = let r = name_from m (inside folder path) name e in (r.0, goes_here m folder folders path r.0 r.1, r.2)
    by (inr e) later = let r = later e in (r.0, goes_later m folder folders path r.0 r.1, r.2)

parts_to : (m : FileMap) (folders : List (List ℕ)) (path rest name : List ℕ) → Goes m folders path rest → up_to_first 47 rest ≡ name → has_text (all_parts m folders path) name ≡ true
parts_to m [] path rest name h e = cc
parts_to m (folder ∷ folders) path rest name h e =
    list_any-append (bytes_eq name) (parts_in m path folder) (all_parts m folders path) ∙ by (goes_cases m folder folders path rest h) (λ g. parts_to m folders path rest name g e)
  where
    by : (is_some (get m (inside (inside folder path) rest)) ≡ true) ⊎ Goes m folders path rest → (Goes m folders path rest → has_text (all_parts m folders path) name ≡ true) → (has_text (parts_in m path folder) name || has_text (all_parts m folders path) name) ≡ true
    by (inl there) later = or_first (has_text (parts_in m path folder) name) _ (name_to m (inside folder path) rest name there e)
    by (inr g) later = or_second (has_text (parts_in m path folder) name) _ (later g)

-- a map that has what the first of the folders has
module _ (v m : FileMap) (path : List ℕ) (folders : List (List ℕ)) (same : (rest : List ℕ) → is_some (get v (inside path rest)) ≡ is_some (first_file m folders (inside path rest))) where
  pub union_folder : is_folder v path ≡ any_folder m folders path
  union_folder = both_ways (is_folder v path) (any_folder m folders path)
      (λ h. let r = folder_from v path h in any_to m folders path r.0 (sym (same r.0) ∙ r.1))
      (λ h. let r = any_from m folders path h in folder_to v path r.0 (same r.0 ∙ r.1))

  pub union_parts : (name : List ℕ) → has_text (all_parts m folders path) name ≡ has_text (parts_below v path) name
  union_parts name = both_ways (has_text (all_parts m folders path) name) (has_text (parts_below v path) name)
      (λ h. let r = parts_from m folders path name h in name_to v path r.0 name (same r.0 ∙ r.1) r.2)
      (λ h. let r = name_from v path name h in parts_to m folders path r.0 name (sym (same r.0) ∙ r.1) r.2)

-- ---- the names of one folder more
has_front : (xs ys zs : List (List ℕ)) (name : List ℕ) → has_text ys name ≡ has_text zs name → has_text (xs ++ ys) name ≡ has_text (xs ++ zs) name
has_front xs ys zs name e = list_any-append (bytes_eq name) xs ys ∙ (ap (λ b. has_text xs name || b) e ∙ sym (list_any-append (bytes_eq name) xs zs))

has_back : (xs ys zs : List (List ℕ)) (name : List ℕ) → has_text xs name ≡ has_text ys name → has_text (xs ++ zs) name ≡ has_text (ys ++ zs) name
has_back xs ys zs name e = list_any-append (bytes_eq name) xs zs ∙ (ap (λ b. b || has_text zs name) e ∙ sym (list_any-append (bytes_eq name) ys zs))

pub listed_parts : (law : InOrderLaw) (m : FileMap) (path : List ℕ) (names : List (List ℕ)) → IsListing m path names → HaveSameTexts names (parts_below m path)
listed_parts law m path names is name = law.members names name ∙ (ap (λ ns. has_text ns name) is.ordered ∙ sym (law.members (parts_below m path) name))

pub more_parts : (law : InOrderLaw) (m : FileMap) (folder path : List ℕ) (folders names all new whole : List (List ℕ)) → IsListing m (inside folder path) names → new ≡ all ++ names
    → HaveSameTexts (all ++ all_parts m (folder ∷ folders) path) whole → HaveSameTexts (new ++ all_parts m folders path) whole
more_parts law m folder path folders names all new whole is e on name =
    ap (λ xs. has_text (xs ++ all_parts m folders path) name) e
    ∙ (ap (λ xs. has_text xs name) (append_assoc all names (all_parts m folders path))
    ∙ (has_front all (names ++ all_parts m folders path) (parts_in m path folder ++ all_parts m folders path) name (has_back names (parts_in m path folder) (all_parts m folders path) name (listed_parts law m (inside folder path) names is name))
    ∙ on name))

-- ---- names put in order
ordered_of : (law : InOrderLaw) (given parts names : List (List ℕ)) → HaveSameTexts parts given → IsAscending names → HaveSameTexts parts names → AreInOrderOf given names
ordered_of law given parts names same ascends kept = record {
  distinct = law.distinct names ascends;
  ordered = law.same names given (λ name. sym (kept name) ∙ same name);
}

pub eclasses_ordered : (law : InOrderLaw) (told : Option FileMap) (folders : List (List ℕ)) (path : List ℕ) (parts names : List (List ℕ)) → (IsTold told → HaveSameTexts parts (all_parts (told_files told) folders path))
    → IsAscending names → HaveSameTexts parts names → IsTold told → AreInOrderOf (all_parts (told_files told) folders path) names
eclasses_ordered law told folders path parts names same ascends kept t = ordered_of law (all_parts (told_files told) folders path) parts names (same t) ascends kept

pub profiles_ordered : (law : InOrderLaw) (told : Option FileMap) (layers : Layers) (path : List ℕ) (listed parts names : List (List ℕ)) (has : Bool) → (IsTold told → IsListing (told_files told) (inside layers.profiles path) listed)
    → (IsTold told → has ≡ has_any (all_files (told_files told) (layers.profiles ∷ layers.lists) categories_path)) → parts ≡ listed ++ (if has then codes "categories" ∷ [] else [])
    → IsAscending names → HaveSameTexts parts names
    → IsTold told → AreInOrderOf (parts_below (told_files told) (inside layers.profiles path) ++ list_names (all_files (told_files told) (layers.profiles ∷ layers.lists) categories_path)) names
profiles_ordered law told layers path listed parts names has is any more ascends kept t = ordered_of law _ parts names same ascends kept
  where
    same : HaveSameTexts parts (parts_below (told_files told) (inside layers.profiles path) ++ list_names (all_files (told_files told) (layers.profiles ∷ layers.lists) categories_path))
    same name =
        ap (λ xs. has_text xs name) (more ∙ ap (λ b. listed ++ (if b then codes "categories" ∷ [] else [])) (any t))
        ∙ has_back listed (parts_below (told_files told) (inside layers.profiles path)) (list_names (all_files (told_files told) (layers.profiles ∷ layers.lists) categories_path)) name
        (listed_parts law (told_files told) (inside layers.profiles path) listed (is t) name)
