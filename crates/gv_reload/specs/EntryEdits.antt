-- Edits of entries: which paths are those of entries, and how repositories of files that differ there alone are alike.
use Rattle.std.specs.Prelude.{◌≡◌, Ok, ℕ, ◌+◌, Bool, true, false, not, ◌&&◌, ◌||◌, List, [], ◌∷◌, length, drop, map, filter, Option, None, codes}
use Rattle.std.specs.List.{AllByRecursion, list_any, list_all}
use Rattle.std.specs.Option.{is_some, option_map, option_map_or}
use Rattle.std.specs.Ordering.{eq_by_cmp}
use Rattle.std.specs.FinMap.{get}
use Rattle.std.specs.Str.{bytes_eq}
use Rattle.gv_base.specs.Cut.{after_prefix, up_to_first}
use Rattle.gv_base.specs.FileMap.{FileMap}
use Rattle.gv_base.specs.Order.{has_text}
use Rattle.gv_entry.specs.declared.entry.Body.{Body}
use Rattle.gv_facts.specs.declared.pkg.Pkg.{Pkg}
use Rattle.gv_reading.specs.Paths.{within}
use Rattle.gv_report.specs.Order.{subject_cmp}
use Rattle.gv_report.specs.declared.report.Report.{Report}
use Rattle.gv_report.specs.declared.report.Subject.{Subject}
use Rattle.gv_report.specs.declared.report.Subject.TheVariants.{Place, Package}
use Rattle.gv_load.specs.Categories.{is_pf, name_of}
use Rattle.gv_load.specs.Loading.{loading}
use Rattle.gv_load.specs.Repository.{AreClassless, folders_of}
use Rattle.gv_reading.specs.Look.{look_of}
use Rattle.gv_load.specs.Paths.{entry_path}
use Rattle.gv_load.specs.declared.loading.Repo.{Repo}
use Rattle.gv_load.specs.declared.members.Member.{Member}

-- ---- paths

-- the category and what follows it
abbrev pub parts_behind : List ℕ → List ℕ × List ℕ
parts_behind rest = (up_to_first 47 rest, drop (length (up_to_first 47 rest) + 1) rest)

-- the category and the PF of an entry's path
abbrev pub entry_parts : List ℕ → Option (List ℕ × List ℕ)
entry_parts path = option_map parts_behind (after_prefix (codes "metadata/md5-cache/") path)

-- the path of an entry of one of the categories
abbrev pub is_entry : (categories : List (List ℕ)) → List ℕ → Bool
is_entry categories path = option_map_or (λ parts. has_text categories parts.0 && is_pf parts.1) (entry_parts path) false

-- CATEGORY/NAME of the package of an entry's path
abbrev pub entry_name : List ℕ → List ℕ
entry_name path = option_map_or (λ parts. within parts.0 (name_of parts.1)) (entry_parts path) []

abbrev pub pkg_name : Pkg → List ℕ
pkg_name p = within p.category p.name

-- the folder of entries and others, or what lies below it
abbrev pub is_in_metadata : List ℕ → Bool
is_in_metadata path = bytes_eq path (codes "metadata") || is_some (after_prefix (codes "metadata/") path)

-- ---- edited entries

-- the entry of this package is edited
abbrev pub is_edited : (paths : List (List ℕ)) → Subject → Bool
is_edited paths (Place path line) = false
is_edited paths (Package category name version pf) = has_text paths (entry_path category pf)

abbrev pub is_edited_pkg : (paths : List (List ℕ)) → Pkg → Bool
is_edited_pkg paths p = has_text paths (entry_path p.category p.pf)

-- an entry of this category is edited: a path lies below the folder of its entries
abbrev pub is_edited_in : (paths : List (List ℕ)) → (category : List ℕ) → Bool
is_edited_in paths category = list_any (λ path. is_some (after_prefix (entry_path category []) path)) paths

-- an edited package has the name of an edited entry
abbrev pub HasEditedName : (paths : List (List ℕ)) → Pkg → Type 0
HasEditedName paths p = is_edited_pkg paths p ≡ true → has_text (map entry_name paths) (pkg_name p) ≡ true

-- ---- two repositories

abbrev pub together : List Pkg → List Body → List Member
together [] bodies = []
together (p ∷ ps) [] = []
together (p ∷ ps) (b ∷ bs) = record { pkg = p; body = b } ∷ together ps bs

abbrev pub members_of : Repo → List Member
members_of repo = together repo.pkgs repo.bodies

abbrev pub is_other : (paths : List (List ℕ)) → Member → Bool
is_other paths m = not (is_edited_pkg paths m.pkg)

abbrev pub is_about : Subject → Report → Bool
is_about s r = eq_by_cmp subject_cmp s r.subject

-- all of a repository but its notes
pub record IsAllBut (repo whole : Repo) : Type 0 where
  pub pkgs : whole.pkgs ≡ repo.pkgs
  pub bodies : whole.bodies ≡ repo.bodies
  pub profiles : whole.profiles ≡ repo.profiles
  pub lines : whole.lines ≡ repo.lines

-- the notes of a repository are those of packages with edited entries alone; the whole one has besides those of the others
pub record IsPartOf (paths : List (List ℕ)) (repo whole : Repo) : Type 0 where
  pub but : IsAllBut repo whole
  pub edited : AllByRecursion (λ (r : Report). is_edited paths r.subject ≡ true) repo.notes
  pub notes : (s : Subject) → is_edited paths s ≡ true → filter (is_about s) whole.notes ≡ filter (is_about s) repo.notes

-- they differ in packages whose entries are edited, and in what is noted of these, alone
pub record DifferIn (paths : List (List ℕ)) (old new : Repo) : Type 0 where
  pub profiles : new.profiles ≡ old.profiles
  pub lines : new.lines ≡ old.lines
  pub members : filter (is_other paths) (members_of new) ≡ filter (is_other paths) (members_of old)
  pub notes : (s : Subject) → is_edited paths s ≡ false → filter (is_about s) new.notes ≡ filter (is_about s) old.notes
  pub classless : AreClassless new.notes
  pub old_names : AllByRecursion (HasEditedName paths) old.pkgs
  pub new_names : AllByRecursion (HasEditedName paths) new.pkgs

-- the maps have the same files but at these paths
abbrev pub AreAlikeBut : (paths : List (List ℕ)) → (files files' : FileMap) → Type 0
AreAlikeBut paths files files' = (path : List ℕ) → has_text paths path ≡ false → get files' path ≡ get files path

-- where no entry of a category is edited, no package of it has an edited entry
abbrev pub EditedInLaw : Type 0
EditedInLaw = (paths : List (List ℕ)) (category name version pf : List ℕ)
    → is_edited_in paths category ≡ false → is_edited paths (Package category name version pf) ≡ false

-- Two repositories that are loaded of files which differ at paths of entries alone, where no directory of the profiles lies among
-- entries, differ in packages with such an entry alone, and their folders are the same.
abbrev pub EntriesLaw : Type 0
EntriesLaw = (paths : List (List ℕ)) (files files' : FileMap) (old new : Repo)
    → list_all (is_entry (folders_of (look_of files)).categories) paths ≡ true → list_any is_in_metadata (folders_of (look_of files)).directories ≡ false
    → AreAlikeBut paths files files'
    → loading (look_of files) ≡ Ok old → loading (look_of files') ≡ Ok new
    → DifferIn paths old new × (folders_of (look_of files') ≡ folders_of (look_of files))
