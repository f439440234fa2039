-- The directories that are reached by parents, depth first, each when it is first reached.
use Rattle.std.specs.Prelude.{ℕ, ◌-◌, zero, suc, List, [], ◌∷◌, ◌++◌, if◌then◌else◌, Option, Some, None, fold, filter_map}
use Rattle.gv_base.specs.Order.{has_text}
use Rattle.gv_profile.specs.ParentFiles.{parents_of}
use Rattle.gv_profile.specs.Walking.{Look, line_dir}
use Rattle.gv_profile.specs.declared.desc.DescLine.{DescLine}
use Rattle.gv_profile.specs.declared.files.DirFiles.{DirFiles}

abbrev pub Dirs : Type 0
Dirs = Look

abbrev pub paths_of : List ℕ → DirFiles → List (List ℕ)
paths_of dir files = filter_map (λ p. p.path) (parents_of dir files)

abbrev pub with_parents : (List (List ℕ) → List ℕ → List (List ℕ)) → List (List ℕ) → List ℕ → Option DirFiles → List (List ℕ)
with_parents go reached dir None = reached
with_parents go reached dir (Some files) = fold go reached (paths_of dir files)

-- a path that was not reached is reached, and then the parents that are named there, in order, no deeper than that.
-- It goes by parents alone, also behind a fault of the stack
abbrev pub reach : ℕ → Dirs → List (List ℕ) → List ℕ → List (List ℕ)
reach zero dirs reached dir = reached
reach (suc depth) dirs reached dir =
    if has_text reached dir then reached else with_parents (reach depth dirs) (reached ++ dir ∷ []) dir (dirs dir)

-- each directory of a chain but the last has a `parent` file, and a load finds no more than 400,000 files
abbrev pub most_depth : ℕ
most_depth = 400001

-- the same at a height
unfoldable pub reach_below : Dirs → ℕ → List (List ℕ) → List ℕ → List (List ℕ)
reach_below dirs height = reach (most_depth - height) dirs

-- from the directories of lines, in order
abbrev pub from_line : Dirs → List (List ℕ) → Option (List ℕ) → List (List ℕ)
from_line dirs reached None = reached
from_line dirs reached (Some dir) = reach_below dirs 0 reached dir

abbrev pub reached_by : Dirs → List (List ℕ) → List DescLine → List (List ℕ)
reached_by dirs reached lines = fold (λ r line. from_line dirs r (line_dir line)) reached lines
