-- Edited entries that are read anew: in which order, what a repository of them alone is, and what it makes of the one before.
-- The repository after the edits is put together of the old one and of what the edited entries give, so that the two
-- differ in edited entries alone is so of whatever trees (`some` of `IsRereadOf`). That a load of the edited files
-- passes and has this repository, all but notes, is said where the old one was loaded of files that differ there alone
-- (`tells`).
use Rattle.std.specs.Prelude.{◌≡◌, ℕ, ◌+◌, ◌≤◌, ◌<◌, ◌⊎◌, Bool, Ok, Err, IfSome, true, false, if◌then◌else◌, List, [], ◌++◌, length, map, filter, filter_map, flat_map, Option, Some, None, codes}
use Rattle.std.specs.List.{list_any}
use Rattle.std.specs.Option.{option_map_or}
use Rattle.std.specs.Str.{bytes_eq}
use Rattle.gv_base.specs.Causes.{Rose}
use Rattle.gv_base.specs.FileMap.{FileMap}
use Rattle.gv_base.specs.Order.{has_text, in_order}
use Rattle.gv_load.specs.Loading.{PassesWithin, loading}
use Rattle.gv_load.specs.Entries.{eclass_digest, pf_read}
use Rattle.gv_reload.specs.EntryEdits.{AreAlikeBut, DifferIn, IsAllBut, IsPartOf, entry_parts, is_in_metadata}
use Rattle.gv_load.specs.Repository.{AreClassless, AreInPackageOrder, folders_of}
use Rattle.gv_load.specs.Freshness.{pf_kept}
use Rattle.gv_reading.specs.Look.{Look, look_of}
use Rattle.gv_load.specs.Given.{all_said, pfs_in, read_with}
use Rattle.gv_load.specs.Order.{eclass_steps, pfs_steps}
use Rattle.gv_reading.specs.Reader.{nothing}
use Rattle.gv_reading.specs.Reading.{Out, Step, most_files, passed}
use Rattle.gv_reload.specs.Replacing.{IsAfter, are_named, replaced}
use Rattle.gv_load.specs.declared.entries.PfRead.{PfRead}
use Rattle.gv_reading.specs.declared.faults.LoadFault.{LoadFault}
use Rattle.gv_reading.specs.declared.faults.LoadFault.TheVariants.{Tree, NotARepository, Limit, NoMemory}
use Rattle.gv_load.specs.declared.freshness.PfKept.{PfKept}
use Rattle.gv_load.specs.declared.given.Given.{Given}
use Rattle.gv_load.specs.declared.given.GivenRead.{GivenRead}
use Rattle.gv_load.specs.declared.loading.Loaded.{Loaded}
use Rattle.gv_load.specs.declared.loading.Repo.{Repo}
use Rattle.gv_reload.specs.declared.rereading.Reread.{Reread}
use Rattle.gv_reload.specs.declared.rereading.Reread.TheVariants.{Done, Unclear}

-- ---- the PFs whose entries are edited, category by category

-- the PF of an entry of this category
abbrev pub pf_in : (category path : List ℕ) → Option (List ℕ)
pf_in category path = option_map_or (λ parts. if bytes_eq parts.0 category then Some parts.1 else None) (entry_parts path) None

-- in byte order, each once
abbrev pub given_in : (paths : List (List ℕ)) → (category : List ℕ) → Given
given_in paths category = record { category = category; names = in_order (filter_map (pf_in category) paths) }

abbrev pub given_of : (paths categories : List (List ℕ)) → List Given
given_of paths categories = map (given_in paths) categories

abbrev pub pfs_edited : (paths : List (List ℕ)) → (category : List ℕ) → List (List ℕ)
pfs_edited paths category = pfs_in (given_in paths category)

-- all of them count as listed
abbrev pub edited_in : Look → (paths : List (List ℕ)) → (category : List ℕ) → List PfRead
edited_in look paths category = map (pf_read look (pfs_edited paths category) category) (pfs_edited paths category)

abbrev pub edited_reads : Look → (paths categories : List (List ℕ)) → List PfRead
edited_reads look paths categories = flat_map (edited_in look paths) categories

abbrev pub steps_in : (paths : List (List ℕ)) → (category : List ℕ) → List Step
steps_in paths category = pfs_steps (pfs_edited paths category) category (pfs_edited paths category)

abbrev pub pf_edited_steps : (paths categories : List (List ℕ)) → List Step
pf_edited_steps paths categories = flat_map (steps_in paths) categories

-- ---- all that is read, with the eclasses that they name

abbrev pub edited_steps : Look → (paths categories : List (List ℕ)) → List Step
edited_steps look paths categories = pf_edited_steps paths categories ++ eclass_steps (in_order (all_said (edited_reads look paths categories)))

abbrev pub edited_kept : Look → (paths categories : List (List ℕ)) → List PfKept
edited_kept look paths categories = map (pf_kept (eclass_digest look)) (edited_reads look paths categories)

-- the entries, their ebuilds and the eclasses that they name
abbrev pub read_of : Look → (paths categories : List (List ℕ)) → GivenRead
read_of look paths categories = read_with look (edited_reads look paths categories)

-- ---- a repository of edited entries alone
abbrev pub small : GivenRead → Repo
small read = record {
  pkgs = read.pkgs;
  bodies = read.bodies;
  profiles = [];
  lines = [];
  notes = read.notes;
}

abbrev pub is_refused : Out → Bool
is_refused (Ok seen) = false
is_refused (Err fault) = true

-- ---- what comes of it

-- the files load, and the repository is all but notes of theirs, which differs from the one before in edited entries alone; the folders
-- are theirs
pub record TellsWhole (paths : List (List ℕ)) (before : Repo) (now : Loaded) (files : FileMap) : Type 0 where
  pub whole : Repo
  pub loads : loading (look_of files) ≡ Ok whole
  pub part : IsPartOf paths now.repo whole
  pub differ : DifferIn paths before whole
  pub folders : now.folders ≡ folders_of (look_of files)
  pub passes : PassesWithin files now.found

-- It is so of whatever whole repository the old one is of. Where that one is loaded of files that are as those of the tree but for
-- edited entries, the folders are theirs, no directory of profiles lies among entries, and so many files at most are found, it is all
-- but notes of what is loaded of the tree
pub record IsRereadOf (paths : List (List ℕ)) (old : Loaded) (told : Option FileMap) (now : Loaded) : Type 0 where
  pub order : AreInPackageOrder now.repo.pkgs
  pub bodies : length now.repo.bodies ≡ length now.repo.pkgs
  pub folders : now.folders ≡ old.folders
  pub some : (before : Repo) → IsAllBut old.repo before → AreClassless before.notes → IsAfter paths before now.repo
  pub tells : (files files' : FileMap) (before : Repo) → told ≡ Some files' → IsAllBut old.repo before → loading (look_of files) ≡ Ok before
      → old.folders ≡ folders_of (look_of files) → PassesWithin files old.found → list_any is_in_metadata old.folders.directories ≡ false
      → AreAlikeBut paths files files' → TellsWhole paths before now files'

abbrev pub IsReread : (paths : List (List ℕ)) → (old : Loaded) → Option FileMap → Reread → Type 0
IsReread paths old told (Done now) = IsRereadOf paths old told now
IsReread paths old told (Unclear same) = same ≡ old

-- Why it isn't told by edited entries alone whether a load passes: a category has the name of the folder of entries, more files than a
-- load may find could be found, or an edited package has a name that no edited entry has
abbrev pub IsUntold : (paths : List (List ℕ)) → (old : Loaded) → GivenRead → Type 0
IsUntold paths old read =
    (has_text old.folders.categories (codes "metadata") ≡ true)
    ⊎ ((most_files < old.found + read.more) ⊎ ((are_named paths old.repo.pkgs ≡ false) ⊎ (are_named paths read.pkgs ≡ false)))

-- or reading them was refused
abbrev pub IsUnclear : (paths : List (List ℕ)) → (old : Loaded) → Look → Type 0
IsUnclear paths old look =
    (is_refused (passed look nothing (edited_steps look paths old.folders.categories)) ≡ true) ⊎ IsUntold paths old (read_of look paths old.folders.categories)

abbrev pub UnclearCause : (paths : List (List ℕ)) → (old : Loaded) → Option FileMap → Reread → Type 0
UnclearCause paths old told (Done now) = Unit {0}
UnclearCause paths old told (Unclear same) = IfSome told (λ files. IsUnclear paths old (look_of files))

-- why edited entries were not read anew
abbrev pub RereadCause : (before now : ℕ) → LoadFault → Type 0
RereadCause before now NoMemory = Unit {0}
RereadCause before now (Tree path) = Rose before now
RereadCause before now (NotARepository path) = ⊥
RereadCause before now (Limit place number) = ⊥

-- ---- words of private contracts: what is made of what was read
pub record IsMade (paths : List (List ℕ)) (old : Repo) (read : GivenRead) (repo : Repo) : Type 0 where
  pub is : repo ≡ replaced paths old (small read)
  pub old_names : are_named paths old.pkgs ≡ true
  pub new_names : are_named paths read.pkgs ≡ true

abbrev pub IsMadeOf : (paths : List (List ℕ)) → (old : Loaded) → (found : ℕ) → GivenRead → Reread → Type 0
IsMadeOf paths old found read (Done now) = (now.found ≡ found) × ((now.folders ≡ old.folders) × IsMade paths old.repo read now.repo)
IsMadeOf paths old found read (Unclear same) = same ≡ old

pub record HasRoom (old : Loaded) (more now : ℕ) : Type 0 where
  pub is : now ≡ old.found + more
  pub room : now ≤ most_files
  pub apart : has_text old.folders.categories (codes "metadata") ≡ false

abbrev pub IsPutTogether : (paths : List (List ℕ)) → (old : Loaded) → GivenRead → Reread → Type 0
IsPutTogether paths old read (Done now) = IsMade paths old.repo read now.repo × ((now.folders ≡ old.folders) × HasRoom old read.more now.found)
IsPutTogether paths old read (Unclear same) = same ≡ old

abbrev pub UntoldCause : (paths : List (List ℕ)) → (old : Loaded) → GivenRead → Reread → Type 0
UntoldCause paths old read (Done now) = Unit {0}
UntoldCause paths old read (Unclear same) = IsUntold paths old read

abbrev pub NameCause : (paths : List (List ℕ)) → (old : Loaded) → GivenRead → Reread → Type 0
NameCause paths old read (Done now) = Unit {0}
NameCause paths old read (Unclear same) = (are_named paths old.repo.pkgs ≡ false) ⊎ (are_named paths read.pkgs ≡ false)
