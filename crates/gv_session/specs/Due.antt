-- Which queries a report may lower anew: after edits of entries alone those of the edited packages, and of the classes that name one.
use Rattle.std.specs.Prelude.{ℕ, Bool, ◌&&◌, not, if◌then◌else◌, List, length, drop, map, filter, Option, None, Some}
use Rattle.std.specs.List.{list_all, list_any}
use Rattle.gv_edits.specs.Edits.{edit_path}
use Rattle.gv_edits.specs.declared.edit.Edit.{Edit}
use Rattle.gv_reload.specs.EntryEdits.{is_entry, is_in_metadata}
use Rattle.gv_load.specs.declared.loading.Folders.{Folders}
use Rattle.gv_load.specs.declared.loading.Repo.{Repo}
use Rattle.gv_report.specs.declared.options.Options.{Options}
use Rattle.gv_checks.specs.Queries.{queries}
use Rattle.gv_renew.specs.Renewal.{is_due}

-- the paths of the edits behind the first so many
abbrev pub new_paths : List Edit → (seen : ℕ) → List (List ℕ)
new_paths edits seen = map edit_path (drop seen edits)

-- an edit is small where its path is that of an entry of one of the categories, and no directory of the profiles lies among entries
abbrev pub is_small : Folders → List ℕ → Bool
is_small folders path = is_entry folders.categories path && not (list_any is_in_metadata folders.directories)

-- The number of queries that are due in a report of the repository of the edited files with these folders, where the report before saw
-- so many of the edits: where all behind them are small, those of packages with such an entry, and of classes with an atom, no blocker, of the
-- category and name of one; else all.
abbrev pub due : Options → Repo → Folders → List Edit → (seen : Option ℕ) → ℕ
due options repo folders edits None = length (queries options repo)
due options repo folders edits (Some seen) =
    if list_all (is_small folders) (new_paths edits seen) then length (filter (is_due (new_paths edits seen)) (queries options repo)) else length (queries options repo)
