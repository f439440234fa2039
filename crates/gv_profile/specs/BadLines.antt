-- The bad lines of a profile directory's files.
use Rattle.std.specs.Prelude.{ℕ, List, [], ◌∷◌, ◌++◌, Option, Some, None}
use Rattle.gv_defaults.specs.Assignments.{file_of}
use Rattle.gv_profile.specs.declared.files.DirFiles.{DirFiles}
use Rattle.gv_reading.specs.declared.files.NamedFile.{NamedFile}
use Rattle.gv_profile.specs.declared.notes.Bad.TheVariants.{Assignment}
use Rattle.gv_profile.specs.declared.notes.LineFile.TheVariants.{ParentFile, MaskFile, FlagFile, PackageFile}
use Rattle.gv_profile.specs.declared.notes.PlaceNote.{PlaceNote}
use Rattle.gv_profile.specs.Names.{parent_path, defaults_path}
use Rattle.gv_profile.specs.Notes.{note, line_notes, files_notes}

abbrev pub parent_notes : List ℕ → Option (List ℕ) → List PlaceNote
parent_notes dir None = []
parent_notes dir (Some bytes) = line_notes ParentFile (parent_path dir) bytes

-- the first assignment that has no good form
abbrev pub shape_note : List ℕ → Option ℕ → List PlaceNote
shape_note dir None = []
shape_note dir (Some line) = note (defaults_path dir) line Assignment ∷ []

abbrev pub defaults_notes : List ℕ → Option (List ℕ) → List PlaceNote
defaults_notes dir None = []
defaults_notes dir (Some bytes) = shape_note dir (file_of bytes).bad

abbrev pub head_notes : List ℕ → DirFiles → List PlaceNote
head_notes dir files = parent_notes dir files.parent ++ defaults_notes dir files.defaults

abbrev pub flag_notes : DirFiles → List PlaceNote
flag_notes files =
    files_notes FlagFile files.use_mask ++ (files_notes FlagFile files.use_force
    ++ (files_notes FlagFile files.use_stable_mask ++ files_notes FlagFile files.use_stable_force))

abbrev pub package_notes : DirFiles → List PlaceNote
package_notes files =
    files_notes PackageFile files.package_use_mask ++ (files_notes PackageFile files.package_use_force
    ++ (files_notes PackageFile files.package_use_stable_mask ++ files_notes PackageFile files.package_use_stable_force))

-- file by file in reading order, also of files that don't count in the directory's EAPI
abbrev pub dir_notes : List ℕ → DirFiles → List PlaceNote
dir_notes dir files = head_notes dir files ++ (flag_notes files ++ (files_notes MaskFile files.package_mask ++ package_notes files))

-- those of mask files alone, as the repository's own
abbrev pub mask_notes : List NamedFile → List PlaceNote
mask_notes files = files_notes MaskFile files
