-- Words of private contracts: what is known of the files of a tree below, where they are told.
use Rattle.std.specs.Prelude.{◌≡◌, ℕ, ◌<◌, List, [], ◌∷◌, Bool, true, false, if◌then◌else◌, codes, nat_lt, length, flat_map, filter_map, Option, Some, None, unwrap_or}
use Rattle.std.specs.List.{list_any, IsDistinct}
use Rattle.std.specs.Str.{bytes_eq}
use Rattle.std.specs.Option.{is_some}
use Rattle.std.specs.FinMap.{empty, keys}
use Rattle.gv_base.specs.FileMap.{FileMap}
use Rattle.gv_base.specs.Listing.{is_folder, next_part}
use Rattle.gv_base.specs.Order.{in_order}
use Rattle.gv_base.specs.declared.tree.Found.{Found}
use Rattle.gv_base.specs.declared.tree.Found.TheVariants.{File, Dir, Absent}
use Rattle.gv_views.specs.declared.areas.Area.{Area}
use Rattle.gv_views.specs.declared.areas.Area.TheVariants.{Categories, Eclasses, InEclasses, InProfiles, Other, Profiles}
use Rattle.gv_views.specs.Views.{inside}

-- the files are told
abbrev pub IsTold : Option FileMap → Type 0
IsTold told = is_some told ≡ true

-- the files that are told
unfoldable pub told_files : Option FileMap → FileMap
told_files told = unwrap_or told empty

-- what was found has these files
abbrev pub files_found : Found → List (List ℕ)
files_found (File bytes) = bytes ∷ []
files_found Dir = []
files_found Absent = []

-- more bytes than a file may have that is given
abbrev pub is_large : List ℕ → Bool
is_large bytes = nat_lt 16777216 (length bytes)

abbrev pub IsLargeFile : Option (List ℕ) → Type 0
IsLargeFile file = (bytes : List ℕ) × (file ≡ Some bytes) × (16777216 < length bytes)

-- some file is below the path in one of the folders
abbrev pub any_folder : FileMap → (folders : List (List ℕ)) → (path : List ℕ) → Bool
any_folder files folders path = list_any (λ folder. is_folder files (inside folder path)) folders

-- the next parts of the files below the path, in one folder and in all of them
abbrev pub parts_below : FileMap → (path : List ℕ) → List (List ℕ)
parts_below files path = filter_map (next_part path) (keys files)

abbrev pub parts_in : FileMap → (path folder : List ℕ) → List (List ℕ)
parts_in files path folder = parts_below files (inside folder path)

abbrev pub all_parts : FileMap → (folders : List (List ℕ)) → (path : List ℕ) → List (List ℕ)
all_parts files folders path = flat_map (parts_in files path) folders

abbrev pub is_large_file : Option (List ℕ) → Bool
is_large_file None = false
is_large_file (Some bytes) = is_large bytes

-- there is one
abbrev pub has_any : List (List ℕ) → Bool
has_any [] = false
has_any (text ∷ texts) = true

-- the name of the list of categories, where there is one
abbrev pub list_names : List (List ℕ) → List (List ℕ)
list_names files = if has_any files then codes "categories" ∷ [] else []

-- each once, and the same in byte order
pub record AreInOrderOf (given names : List (List ℕ)) : Type 0 where
  pub distinct : IsDistinct bytes_eq names
  pub ordered : in_order names ≡ in_order given

-- what stands there as a file is the overlay's own
abbrev pub is_own : Area → Bool
is_own Profiles = true
is_own Eclasses = true
is_own Other = true
is_own Categories = false
is_own InProfiles = false
is_own InEclasses = false
