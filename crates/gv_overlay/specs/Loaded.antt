-- Words of private contracts: masters that are loaded, and the packages that are added of them.
use Rattle.std.specs.Prelude.{◌≡◌, true, List, [], ◌∷◌, ◌++◌, map, filter, Result, Ok}
use Rattle.gv_reading.specs.declared.faults.LoadFault.{LoadFault}
use Rattle.gv_load.specs.declared.loading.Repo.{Repo}
use Rattle.gv_overlay.specs.declared.combining.Entry.{Entry}
use Rattle.gv_overlay.specs.declared.overlay.Overlay.{Overlay}
use Rattle.gv_overlay.specs.Combined.{AreCombined, body_of, master_entries, own_of, pkg_of, repo_entries}
use Rattle.gv_overlay.specs.Overlays.{is_of_entry}

-- these loads gave repositories, and their packages were added
pub record HasAdded (loads : List (Result Repo LoadFault)) (before now : List Entry) : Type 0 where
  pub repos : List Repo
  pub loaded : loads ≡ map Ok repos
  pub added : now ≡ before ++ master_entries repos

-- the packages so far and those of the overlay together
pub record IsPutTogether (given : List Entry) (own : Repo) (over : Overlay) : Type 0 where
  pub entries : List Entry
  pub combined : AreCombined (given ++ repo_entries true own) entries
  pub pkgs_are : over.repo.pkgs ≡ map pkg_of entries
  pub bodies_are : over.repo.bodies ≡ map body_of entries
  pub own_are : over.own ≡ map own_of entries
  pub profiles_are : over.repo.profiles ≡ own.profiles
  pub lines_are : over.repo.lines ≡ own.lines
  pub no_notes : over.repo.notes ≡ []
  pub notes_are : over.notes ≡ filter is_of_entry own.notes
