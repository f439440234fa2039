-- Words of private contracts alone, no rule: files by their places.
use Rattle.std.specs.Prelude.{ℕ, List, [], slice_get}
use Rattle.std.specs.Option.{option_map_or}
use Rattle.gv_defaults.specs.Settings.{VarMap}
use Rattle.gv_usedefaults.specs.declared.file_kinds.LineFile.{LineFile}
use Rattle.gv_usedefaults.specs.Defaults.{with_file}

-- what the file at a place adds to a list
abbrev pub added_at : {A : Type 0} → (LineFile → List A) → List LineFile → ℕ → List A
added_at of files place = option_map_or of (slice_get files place) []

-- the variables behind the file at a place
abbrev pub vars_at : List LineFile → VarMap → ℕ → VarMap
vars_at files vars place = option_map_or (with_file vars) (slice_get files place) vars
