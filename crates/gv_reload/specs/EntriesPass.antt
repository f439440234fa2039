-- That a load of files with edited entries passes: which room and which paths are enough.
use Rattle.std.specs.Prelude.{◌≡◌, ℕ, ◌+◌, ◌≤◌, true, false, List, codes}
use Rattle.std.specs.FinMap.{get}
use Rattle.std.specs.List.{list_all, list_any}
use Rattle.gv_base.specs.FileMap.{FileMap}
use Rattle.gv_base.specs.Order.{has_text}
use Rattle.gv_reload.specs.Counting.{FitsAt, FitsFiles, most_more}
use Rattle.gv_load.specs.Entries.{all_reads, eclass_names}
use Rattle.gv_reload.specs.EntryEdits.{is_entry, is_in_metadata}
use Rattle.gv_load.specs.Loading.{PassesWithin}
use Rattle.gv_reading.specs.Look.{look_of}
use Rattle.gv_load.specs.Order.{categories, load_steps}
use Rattle.gv_load.specs.Paths.{eclass_path}
use Rattle.gv_reading.specs.Reader.{Seen, nothing}
use Rattle.gv_reading.specs.Reading.{most_files, passed}
use Rattle.gv_load.specs.Repository.{folders_of}

-- files that differ at paths of entries alone, where no profile reaches into the folder of entries and no category is that
abbrev pub EntriesPassLaw : Type 0
EntriesPassLaw = (paths : List (List ℕ)) (files files' : FileMap) (count : ℕ) → list_all (is_entry (folders_of (look_of files)).categories) paths ≡ true → list_any is_in_metadata (folders_of (look_of files)).directories ≡ false →
    has_text (folders_of (look_of files)).categories (codes "metadata") ≡ false → ((path : List ℕ) → has_text paths path ≡ false → get files' path ≡ get files path) → PassesWithin files count →
    FitsFiles (folders_of (look_of files)).categories paths (look_of files) (look_of files') → count + most_more (look_of files') paths ≤ most_files → PassesWithin files' (count + most_more (look_of files') paths)

-- what a load that passes read of the eclasses that entries name is short enough and small enough
abbrev pub EclassesFitLaw : Type 0
EclassesFitLaw = (files : FileMap) (count : ℕ) → PassesWithin files count → (name : List ℕ) → has_text (eclass_names (all_reads (look_of files) (categories (look_of files)))) name ≡ true →
    FitsAt (look_of files) (eclass_path name)
