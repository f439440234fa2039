-- What was read so far, part by part: words of private contracts.
use Rattle.std.specs.Prelude.{◌≡◌, ℕ, List, [], ◌++◌, map, flat_map, filter_map}
use Rattle.std.specs.FinMap.{get}
use Rattle.gv_base.specs.Order.{has_text}
use Rattle.gv_profile.specs.Desc.{desc_read}
use Rattle.gv_profile.specs.BadLines.{mask_notes}
use Rattle.gv_profile.specs.declared.desc.DescLine.{DescLine}
use Rattle.gv_reading.specs.declared.files.NamedFile.{NamedFile}
use Rattle.gv_report.specs.declared.keyword.Keyword.TheVariants as keywords
use Rattle.gv_report.specs.declared.report.Report.{Report}
use Rattle.gv_load.specs.Ahead.{KeepsDirs}
use Rattle.gv_load.specs.Categories.{categories_in, listed, pfs_of}
use Rattle.gv_load.specs.Closed.{HaveSameStacks}
use Rattle.gv_reading.specs.Look.{Look, text_at}
use Rattle.gv_load.specs.Directories.{dir_at}
use Rattle.gv_reading.specs.NamedFiles.{files_at}
use Rattle.gv_load.specs.Notes.{category_notes, notes_in, pf_notes, place_report}
use Rattle.gv_load.specs.Order.{reached}
use Rattle.gv_profile.specs.Names.{desc_path}
use Rattle.gv_load.specs.Paths.{categories_path, mask_path}
use Rattle.gv_load.specs.Reaching.{reached_by}
use Rattle.gv_load.specs.Repository.{body_of, folders_of, in_package_order, members_in, pkg_of, repository}
use Rattle.gv_load.specs.Stacks.{error_at, profile_at}
use Rattle.gv_load.specs.declared.categories.Listing.{Listing}
use Rattle.gv_load.specs.declared.freshness.PfKept.{PfKept}
use Rattle.gv_load.specs.declared.lists.Lists.{Lists}
use Rattle.gv_load.specs.declared.lists.TopPaths.{TopPaths}
use Rattle.gv_load.specs.declared.loading.Folders.{Folders}
use Rattle.gv_load.specs.declared.loading.Repo.{Repo}
use Rattle.gv_load.specs.declared.loading.RepoRead.{RepoRead}
use Rattle.gv_load.specs.declared.line_profiles.Profiled.{Profiled}
use Rattle.gv_load.specs.declared.reaching.Reached.{Reached}

abbrev pub top_paths : TopPaths
top_paths = record { desc = desc_path; categories = categories_path; masks = mask_path }

abbrev pub lists_with : (desc categories : List ℕ) → List NamedFile → Lists
lists_with desc categories masks = record {
  lines = (desc_read desc).lines;
  categories = categories_in categories;
  masks = masks;
  notes = (desc_read desc).notes ++ (category_notes categories ++ mask_notes masks);
}

abbrev pub lists_of : Look → Lists
lists_of look = lists_with (text_at look desc_path) (text_at look categories_path) (files_at look mask_path)

-- what the lines reach is kept in order, with the files of its directories, and their stacks need no more
pub record HasReached (look : Look) (lines : List DescLine) (r : Reached) : Type 0 where
  pub order : r.order ≡ reached_by (dir_at look) [] lines
  pub dirs : KeepsDirs look r
  pub stacks : HaveSameStacks (get r.dirs) (dir_at look) lines

abbrev pub profiled_of : Look → List NamedFile → List DescLine → Profiled
profiled_of look masks lines = record {
  profiles = filter_map (profile_at (dir_at look) masks) lines;
  errors = filter_map (error_at (dir_at look)) lines;
  notes = notes_in (dir_at look) (reached look lines);
  directories = reached look lines;
}

-- the names among a category's entries are kept as a set, and its PFs as a list
pub record HasListed (look : Look) (category : List ℕ) (l : Listing) : Type 0 where
  pub names : (text : List ℕ) → has_text l.listed.keys text ≡ has_text (listed look category) text
  pub pfs : l.pfs ≡ pfs_of look category

abbrev pub notes_with : Lists → Profiled → List PfKept → List Report
notes_with lists profiled kepts =
    map (place_report keywords.ProfileNote) lists.notes
    ++ (map (place_report keywords.ProfileNote) profiled.notes
    ++ (map (place_report keywords.ProfileError) profiled.errors ++ flat_map pf_notes kepts))

abbrev pub repo_with : Lists → Profiled → List PfKept → Repo
repo_with lists profiled kepts = record {
  pkgs = map pkg_of (in_package_order (members_in kepts));
  bodies = map body_of (in_package_order (members_in kepts));
  profiles = profiled.profiles;
  lines = lists.lines;
  notes = notes_with lists profiled kepts;
}

abbrev pub folders_with : Lists → Profiled → Folders
folders_with lists profiled = record { categories = lists.categories; directories = profiled.directories }

-- they are those that stand there
pub record IsRepoOf (look : Look) (read : RepoRead) : Type 0 where
  pub repo : read.repo ≡ repository look
  pub folders : read.folders ≡ folders_of look
