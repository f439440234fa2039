-- Steps that list a path, or count what stands at one and let it go: how many files they count, and where none is
-- refused. And trees that are alike but at the paths of some entries, with what is counted besides in the second.
use Rattle.std.specs.Prelude.{◌≡◌, ℕ, ◌+◌, ◌≤◌, ◌&&◌, Bool, true, false, not, List, [], ◌++◌, length, map, filter, flat_map, filter_map, Option, Some, None, IfSome}
use Rattle.std.specs.FinMap.{get}
use Rattle.std.specs.Option.{is_some, option_map_or}
use Rattle.gv_base.specs.ByteMap.{ByteMap}
use Rattle.gv_base.specs.Order.{has_text}
use Rattle.gv_base.specs.Outside.{most_file_bytes}
use Rattle.gv_base.specs.declared.tree.Found.{Found}
use Rattle.gv_entry.specs.EntryRead.{entry_of}
use Rattle.gv_reading.specs.Paths.{within}
use Rattle.gv_load.specs.Categories.{listed, name_of}
use Rattle.gv_reading.specs.Look.{Look, bytes_at}
use Rattle.gv_load.specs.Entries.{all_reads, eclass_names, named_by}
use Rattle.gv_reload.specs.EntryEdits.{entry_parts}
use Rattle.gv_reload.specs.Once.{once_paths}
use Rattle.gv_load.specs.Order.{desc_lines, list_steps, packages_steps, profiles_steps}
use Rattle.gv_load.specs.Paths.{ebuild_path, eclass_path, entry_path}
use Rattle.gv_reading.specs.Reader.{Seen}
use Rattle.gv_reading.specs.Reading.{Step, read, list, need, bound, once, most_path}

-- ---- the steps of the packages are of two kinds
abbrev pub is_light : Step → Bool
is_light (read path) = false
is_light (list path) = true
is_light (need path) = false
is_light (bound place most passes) = false
is_light (once path) = true

abbrev pub list_path : Step → Option (List ℕ)
list_path (read path) = None
list_path (list path) = Some path
list_path (need path) = None
list_path (bound place most passes) = None
list_path (once path) = None

-- in the order of the steps
abbrev pub list_paths : List Step → List (List ℕ)
list_paths steps = filter_map list_path steps

-- ---- what they count
abbrev pub Known : Type 0
Known = ByteMap Found

-- a file that isn't known
abbrev pub is_new : Look → Known → List ℕ → Bool
is_new look known path = not (is_some (get known path)) && is_some (bytes_at look path)

abbrev pub new_files : Look → Seen → List Step → ℕ
new_files look seen steps = length (filter (is_new look seen.known) (once_paths steps))

-- what was seen, and so many files more
abbrev pub with_more : Seen → ℕ → Seen
with_more seen more = record { known = seen.known; found = seen.found + more }

-- ---- where they aren't refused for a path or a file
abbrev pub IsShort : List ℕ → Type 0
IsShort path = length path ≤ most_path

abbrev pub FitsAt : Look → List ℕ → Type 0
FitsAt look path = IsShort path × IfSome (bytes_at look path) (λ bytes. length bytes ≤ most_file_bytes)

abbrev pub IsFine : Look → Known → Step → Type 0
IsFine look known (read path) = ⊥
IsFine look known (list path) = IsShort path
IsFine look known (need path) = ⊥
IsFine look known (bound place most passes) = ⊥
IsFine look known (once path) = get known path ≡ None → FitsAt look path

-- ---- two trees: the same bytes stand at each path that isn't one of these, folders of categories list the same names,
-- and an entry that is listed and isn't one of these was listed
pub record AlikeBut (categories paths : List (List ℕ)) (old new : Look) : Type 0 where
  pub bytes : (path : List ℕ) → has_text paths path ≡ false → bytes_at new path ≡ bytes_at old path
  pub folders : (category : List ℕ) → has_text categories category ≡ true → new.names category ≡ old.names category
  pub files : (category name : List ℕ) → has_text categories category ≡ true → new.names (within category name) ≡ old.names (within category name)
  pub entries : (category pf : List ℕ) → has_text categories category ≡ true → has_text (listed new category) pf ≡ true → has_text paths (entry_path category pf) ≡ false → has_text (listed old category) pf ≡ true

-- ---- what may be counted besides: the ebuilds of these entries, and the eclasses that these entries name
abbrev pub ebuild_by : List ℕ → List ℕ
ebuild_by path = option_map_or (λ parts. ebuild_path parts.0 (name_of parts.1) parts.1) (entry_parts path) []

-- an entry of these bytes
abbrev pub names_written : (category pf : List ℕ) → Option (List ℕ) → List (List ℕ)
names_written category pf bytes = option_map_or (λ text. named_by (entry_of category pf text).eclasses) bytes []

abbrev pub names_at : Look → List ℕ → List (List ℕ)
names_at look path = option_map_or (λ parts. names_written parts.0 parts.1 (bytes_at look path)) (entry_parts path) []

abbrev pub names_by : Look → List (List ℕ) → List (List ℕ)
names_by look paths = flat_map (names_at look) paths

abbrev pub paths_besides : Look → List (List ℕ) → List (List ℕ)
paths_besides look paths = map ebuild_by paths ++ map eclass_path (names_by look paths)

abbrev pub most_more : Look → List (List ℕ) → ℕ
most_more look paths = length paths + length (paths_besides look paths)

-- what is read before the packages
abbrev pub front_steps : Look → List Step
front_steps look = list_steps look ++ profiles_steps look (desc_lines look)

-- ---- what is read besides is short enough and small enough: of the ebuilds and the eclasses those that weren't read before
pub record FitsEdited (categories paths : List (List ℕ)) (old new : Look) : Type 0 where
  pub entries : (path : List ℕ) → has_text paths path ≡ true → FitsAt new path
  pub ebuilds : (path : List ℕ) → has_text paths path ≡ true → has_text (once_paths (packages_steps old categories)) (ebuild_by path) ≡ false → FitsAt new (ebuild_by path)
  pub eclasses : (name : List ℕ) → has_text (names_by new paths) name ≡ true → has_text (eclass_names (all_reads old categories)) name ≡ false → FitsAt new (eclass_path name)

-- the same of files: of the ebuilds the paths are enough, since a file that stands there was read
pub record FitsFiles (categories paths : List (List ℕ)) (old new : Look) : Type 0 where
  pub entries : (path : List ℕ) → has_text paths path ≡ true → FitsAt new path
  pub ebuilds : (path : List ℕ) → has_text paths path ≡ true → IsShort (ebuild_by path)
  pub eclasses : (name : List ℕ) → has_text (names_by new paths) name ≡ true → has_text (eclass_names (all_reads old categories)) name ≡ false → FitsAt new (eclass_path name)
