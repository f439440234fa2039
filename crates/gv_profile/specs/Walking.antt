-- What the walk of a profile's stack meets (PMS chapter 5).
use Rattle.std.specs.Prelude.{ℕ, ◌+◌, ◌-◌, zero, suc, List, [], ◌∷◌, ◌++◌, Bool, true, false, if◌then◌else◌, Option, Some, None, nat_lt, length, flat_map}
use Rattle.std.specs.List.{list_any}
use Rattle.std.specs.Str.{bytes_eq}
use Rattle.gv_profile.specs.declared.desc.DescLine.{DescLine}
use Rattle.gv_profile.specs.declared.faults.ProfileFault.{ProfileFault}
use Rattle.gv_profile.specs.declared.faults.ProfileFault.TheVariants.{Cycle, MissingParent, MissingProfile, BadEapi, TooMany}
use Rattle.gv_profile.specs.declared.files.DirFiles.{DirFiles}
use Rattle.gv_profile.specs.declared.parent_files.ParentLine.{ParentLine}
use Rattle.gv_profile.specs.Eapi.{has_bad_eapi}
use Rattle.gv_profile.specs.Names.{profiles, eapi_path, parent_path}
use Rattle.gv_profile.specs.ParentFiles.{parents_of}
use Rattle.gv_profile.specs.Paths.{resolved}

-- what is known of the directory at a path
abbrev pub Look : Type 0
Look = List ℕ → Option DirFiles

abbrev pub most_visits : ℕ
most_visits = 4096

-- the walk comes to a directory, meets a fault, or has done a directory's parents
pub data Met : Type 0 where
  visit : (dir : List ℕ) → Met
  fault : (what : ProfileFault) → Met
  leave : (dir : List ℕ) → Met

abbrev pub eapi_fault : List ℕ → DirFiles → List Met
eapi_fault dir files = if has_bad_eapi files then fault (BadEapi (eapi_path dir)) ∷ [] else []

-- a parent that is there: one of the directories that led here, or walked in its turn
abbrev pub there : (DirFiles → List Met) → Bool → List ℕ → ℕ → DirFiles → List Met
there go true dir line files = fault (Cycle (parent_path dir) line) ∷ []
there go false dir line files = go files

abbrev pub found : (DirFiles → List Met) → Bool → List ℕ → ℕ → Option DirFiles → List Met
found go again dir line None = fault (MissingParent (parent_path dir) line) ∷ []
found go again dir line (Some files) = there go again dir line files

-- one line of the parents of `dir`; `family` is `dir` behind the directories that led to it
abbrev pub at_path : (List ℕ → DirFiles → List Met) → Look → List (List ℕ) → List ℕ → ℕ → Option (List ℕ) → List Met
at_path go look family dir line None = fault (MissingParent (parent_path dir) line) ∷ []
at_path go look family dir line (Some path) = found (go path) (list_any (bytes_eq path) family) dir line (look path)

abbrev pub at_parent : (List ℕ → DirFiles → List Met) → Look → List (List ℕ) → List ℕ → ParentLine → List Met
at_parent go look family dir parent = at_path go look family dir parent.line parent.path

-- what the walk meets from a directory on, `above` being those that led to it: the directory, its `eapi`, its parents in
-- order. Below a chain of `depth` more there are too many visits before anything else. The walk goes on behind a fault,
-- and what counts is the first
abbrev pub walk : ℕ → Look → List (List ℕ) → List ℕ → DirFiles → List Met
walk zero look above dir files = visit dir ∷ []
walk (suc depth) look above dir files =
    visit dir ∷ (eapi_fault dir files
    ++ (flat_map (at_parent (walk depth look (above ++ dir ∷ [])) look (above ++ dir ∷ []) dir) (parents_of dir files)
    ++ leave dir ∷ []))

unfoldable pub walk_below : Look → List (List ℕ) → List ℕ → DirFiles → List Met
walk_below look above = walk (most_visits - length above) look above

-- ---- of a line of `profiles.desc`

-- the directory of a line
abbrev pub line_dir : DescLine → Option (List ℕ)
line_dir line = resolved profiles line.path

abbrev pub from_files : Look → DescLine → List ℕ → Option DirFiles → List Met
from_files look line dir None = fault (MissingProfile line.number) ∷ []
from_files look line dir (Some files) = walk_below look [] dir files

abbrev pub from_dir : Look → DescLine → Option (List ℕ) → List Met
from_dir look line None = fault (MissingProfile line.number) ∷ []
from_dir look line (Some dir) = from_files look line dir (look dir)

abbrev pub line_walk : Look → DescLine → List Met
line_walk look line = from_dir look line (line_dir line)

-- the first thing that is wrong on a walk, after so many visits
abbrev pub first_fault : ℕ → List Met → Option ProfileFault
first_fault visits [] = None
first_fault visits (visit dir ∷ rest) = if nat_lt visits most_visits then first_fault (visits + 1) rest else Some TooMany
first_fault visits (fault what ∷ rest) = Some what
first_fault visits (leave dir ∷ rest) = first_fault visits rest

-- the directories in the order in which the walk is done with them: the stacks of a directory's parents, then itself
abbrev pub stack_of : List Met → List (List ℕ)
stack_of [] = []
stack_of (visit dir ∷ rest) = stack_of rest
stack_of (fault what ∷ rest) = stack_of rest
stack_of (leave dir ∷ rest) = dir ∷ stack_of rest

abbrev pub stack_fault : Look → DescLine → Option ProfileFault
stack_fault look line = first_fault 0 (line_walk look line)
