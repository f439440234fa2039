-- A profile directory: what is read of it, in order, and what that is.
use Rattle.std.specs.Prelude.{ℕ, List, [], ◌∷◌, ◌++◌, Option, Some, None, flat_map}
use Rattle.gv_base.specs.declared.tree.Found.{Found}
use Rattle.gv_base.specs.declared.tree.Found.TheVariants.{File, Dir, Absent}
use Rattle.gv_profile.specs.declared.files.DirFiles.{DirFiles}
use Rattle.gv_reading.specs.Look.{Look, bytes_at}
use Rattle.gv_reading.specs.NamedFiles.{file_steps, files_at}
use Rattle.gv_reading.specs.Paths.{within}
use Rattle.gv_reading.specs.Reading.{Step, read}
use Rattle.gv_load.specs.Layout.{layout}

abbrev pub dir_files : Look → List ℕ → DirFiles
dir_files look dir = record {
  eapi = bytes_at look (within dir layout.eapi);
  parent = bytes_at look (within dir layout.parent);
  defaults = bytes_at look (within dir layout.defaults);
  use_mask = files_at look (within dir layout.use_mask);
  use_force = files_at look (within dir layout.use_force);
  use_stable_mask = files_at look (within dir layout.use_stable_mask);
  use_stable_force = files_at look (within dir layout.use_stable_force);
  package_mask = files_at look (within dir layout.package_mask);
  package_use_mask = files_at look (within dir layout.package_use_mask);
  package_use_force = files_at look (within dir layout.package_use_force);
  package_use_stable_mask = files_at look (within dir layout.package_use_stable_mask);
  package_use_stable_force = files_at look (within dir layout.package_use_stable_force);
}

abbrev pub dir_as : Look → List ℕ → Found → Option DirFiles
dir_as look dir (File bytes) = None
dir_as look dir Dir = Some (dir_files look dir)
dir_as look dir Absent = None

-- a path that is no folder is no directory
unfoldable pub dir_at : Look → List ℕ → Option DirFiles
dir_at look dir = dir_as look dir (look.found dir)

-- ---- the steps

abbrev pub head_steps : List ℕ → List Step
head_steps dir = read (within dir layout.eapi) ∷ read (within dir layout.parent) ∷ read (within dir layout.defaults) ∷ []

abbrev pub pair_steps : Look → List ℕ → List ℕ → List ℕ → List Step
pair_steps look dir mask force = file_steps look (within dir mask) ++ file_steps look (within dir force)

abbrev pub flag_steps : Look → List ℕ → List Step
flag_steps look dir =
    pair_steps look dir layout.use_mask layout.use_force ++ pair_steps look dir layout.use_stable_mask layout.use_stable_force

abbrev pub package_steps : Look → List ℕ → List Step
package_steps look dir =
    file_steps look (within dir layout.package_mask)
    ++ (pair_steps look dir layout.package_use_mask layout.package_use_force
    ++ pair_steps look dir layout.package_use_stable_mask layout.package_use_stable_force)

abbrev pub inside_steps : Look → List ℕ → List Step
inside_steps look dir = head_steps dir ++ (flag_steps look dir ++ package_steps look dir)

abbrev pub steps_as : Look → List ℕ → Found → List Step
steps_as look dir (File bytes) = []
steps_as look dir Dir = inside_steps look dir
steps_as look dir Absent = []

unfoldable pub dir_steps : Look → List ℕ → List Step
dir_steps look dir = read dir ∷ steps_as look dir (look.found dir)

-- the steps of these directories
abbrev pub steps_of : Look → List (List ℕ) → List Step
steps_of look dirs = flat_map (dir_steps look) dirs
