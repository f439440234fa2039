-- Words of private contracts: what the edits leave of a map of files.
use Rattle.std.specs.Prelude.{ℕ, List, ◌∷◌, ◌++◌, Bool, true, false, not, ◌||◌, Option}
use Rattle.std.specs.List.{list_any, list_all}
use Rattle.std.specs.Option.{is_some}
use Rattle.std.specs.FinMap.{get, contains_key, retain_keys}
use Rattle.gv_base.specs.FileMap.{FileMap}
use Rattle.gv_base.specs.Listing.{is_folder}
use Rattle.gv_base.specs.declared.tree.Found.{Found}
use Rattle.gv_base.specs.declared.tree.Found.TheVariants as found
use Rattle.gv_edits.specs.declared.edit.Edit.{Edit}
use Rattle.gv_edits.specs.declared.left.Left.{Left}
use Rattle.gv_edits.specs.declared.left.Left.TheVariants.{Here, Maybe, Nowhere}
use Rattle.gv_edits.specs.Inner.{told_files}
use Rattle.gv_edits.specs.Kept.{cut_paths}

-- the path of a name in a folder
abbrev pub within : List ℕ → List ℕ → List ℕ
within path name = path ++ 47 ∷ name

-- something is at the path: a file, or a folder
abbrev pub stands : FileMap → List ℕ → Bool
stands files path = is_some (get files path) || is_folder files path

-- the files that the cuts left
abbrev pub uncut : FileMap → List Edit → FileMap
uncut files edits = retain_keys files (λ key. not (contains_key (cut_paths edits) key))

-- the files that the cuts left, where the files are told
abbrev pub left_files : Option FileMap → List Edit → FileMap
left_files told edits = uncut (told_files told) edits

-- something stands at some, and at each, of the names in the folder
abbrev pub any_stands : FileMap → List ℕ → List (List ℕ) → Bool
any_stands files path names = list_any (λ name. stands files (within path name)) names

abbrev pub all_stand : FileMap → List ℕ → List (List ℕ) → Bool
all_stand files path names = list_all (λ name. stands files (within path name)) names

-- some of the paths is a folder
abbrev pub any_folder : FileMap → List (List ℕ) → Bool
any_folder files paths = list_any (is_folder files) paths

-- whether such a file is at a path or below it, by what is known of the path and by whether one is below it
abbrev pub is_left : Left → Bool → Bool
is_left Here below = true
is_left Maybe below = below
is_left Nowhere below = false

-- a file or a folder was found
abbrev pub is_anything : Found → Bool
is_anything (found.File bytes) = true
is_anything found.Dir = true
is_anything found.Absent = false
