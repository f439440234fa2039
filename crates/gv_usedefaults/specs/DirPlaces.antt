-- For invariants: an index has the places of all files at each directory.
use Rattle.std.specs.Prelude.{◌≡◌, ℕ, List}
use Rattle.gv_facts.specs.Places.{places_of}
use Rattle.gv_usedefaults.specs.declared.file_kinds.LineFile.{LineFile}
use Rattle.gv_usedefaults.specs.declared.dir_places.DirPlaces.{DirPlaces}
use Rattle.gv_usedefaults.specs.PlaceMaps.{places_at}
use Rattle.gv_usedefaults.specs.Stacks.{in_dir}

abbrev pub HasDirs : DirPlaces → List LineFile → Type 0
HasDirs index files = (dir : List ℕ) → places_at index dir ≡ places_of (in_dir dir) files
