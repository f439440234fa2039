-- Words of private contracts: the edits that a report has to look at, where all are small.
use Rattle.std.specs.Prelude.{◌≡◌, ℕ, true, false, List, ◌++◌, Option, None, Some}
use Rattle.std.specs.List.{list_all}
use Rattle.gv_edits.specs.declared.edit.Edit.{Edit}
use Rattle.gv_load.specs.declared.loading.Folders.{Folders}
use Rattle.gv_session.specs.Due.{is_small, new_paths}

-- these paths, where they are small, and none where one isn't
abbrev pub AreSmall : Folders → (paths : List (List ℕ)) → Option (List (List ℕ)) → Type 0
AreSmall folders paths None = list_all (is_small folders) paths ≡ false
AreSmall folders paths (Some these) = (these ≡ paths) × (list_all (is_small folders) paths ≡ true)

-- those from the first unseen edit up to this one are these, and small
pub record AreUpTo (folders : Folders) (edits : List Edit) (seen place : ℕ) (these : List (List ℕ)) : Type 0 where
  pub paths : these ++ new_paths edits place ≡ new_paths edits seen
  pub small : list_all (is_small folders) (new_paths edits place) ≡ list_all (is_small folders) (new_paths edits seen)
