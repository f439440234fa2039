-- Words of private contracts: what can be seen of a tree below, where its files are told.
use Rattle.std.specs.Prelude.{◌≡◌, ℕ, List, Bool, true, false, Option, Some, None, unwrap_or}
use Rattle.std.specs.Option.{is_some}
use Rattle.std.specs.FinMap.{empty, get}
use Rattle.gv_base.specs.FileMap.{FileMap}
use Rattle.gv_base.specs.Listing.{is_folder}
use Rattle.gv_base.specs.declared.tree.Found.{Found}
use Rattle.gv_base.specs.declared.tree.Found.TheVariants as found
use Rattle.gv_edits.specs.declared.inner.Kind.{Kind}
use Rattle.gv_edits.specs.declared.inner.Kind.TheVariants.{File, Dir, Absent}

-- the files are told
abbrev pub IsTold : Option FileMap → Type 0
IsTold told = is_some told ≡ true

-- the files that are told
unfoldable pub told_files : Option FileMap → FileMap
told_files told = unwrap_or told empty

-- the kind of what was found
abbrev pub kind_in : Found → Kind
kind_in (found.File bytes) = File
kind_in found.Dir = Dir
kind_in found.Absent = Absent

-- a file, or else a folder where some file is below it, or else nothing
abbrev pub kind_as : Option (List ℕ) → Bool → Kind
kind_as (Some bytes) _ = File
kind_as None true = Dir
kind_as None false = Absent

abbrev pub kind_at : FileMap → List ℕ → Kind
kind_at files path = kind_as (get files path) (is_folder files path)
