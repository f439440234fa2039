-- Words of private contracts alone, no rule: what is still ahead while directories are reached.
use Rattle.std.specs.Prelude.{◌≡◌, ℕ, suc, List, [], ◌∷◌, ◌++◌, Option, Some, None, if◌then◌else◌, drop, fold}
use Rattle.std.specs.FinMap.{get, insert}
use Rattle.gv_base.specs.Order.{has_text}
use Rattle.gv_profile.specs.Dirs.{DirMap}
use Rattle.gv_profile.specs.declared.files.DirFiles.{DirFiles}
use Rattle.gv_load.specs.declared.reaching.Ahead.{Ahead}
use Rattle.gv_load.specs.declared.reaching.Reached.{Reached}
use Rattle.gv_load.specs.Directories.{dir_at}
use Rattle.gv_reading.specs.Look.{Look}
use Rattle.gv_load.specs.Reaching.{Dirs, paths_of, reach_below}

-- what will be reached in the end: the last parents are gone to first
abbrev pub reached_after : Dirs → ℕ → List Ahead → List (List ℕ) → List (List ℕ)
reached_after dirs height [] reached = reached
reached_after dirs height (a ∷ as_) reached = fold (reach_below dirs (suc height)) (reached_after dirs (suc height) as_ reached) (drop a.next a.paths)

-- the parents of a directory
abbrev pub ahead_of : List ℕ → Option DirFiles → List Ahead
ahead_of dir None = []
ahead_of dir (Some files) = record { paths = paths_of dir files; next = 0 } ∷ []

abbrev pub dirs_with : DirMap → List ℕ → Option DirFiles → DirMap
dirs_with dirs dir None = dirs
dirs_with dirs dir (Some files) = insert dirs dir files

-- the set has what was reached
abbrev pub IsIndexed : Reached → Type 0
IsIndexed reached = (text : List ℕ) → has_text reached.set.keys text ≡ has_text reached.order text

-- the directories that were reached are kept, and no other
abbrev pub KeepsDirs : Look → Reached → Type 0
KeepsDirs look reached = (path : List ℕ) → get reached.dirs path ≡ (if has_text reached.order path then dir_at look path else None)

-- a path was reached: its parents are ahead now, and its files are kept where it is a directory
pub record HasVisited (dirs : Dirs) (before : Reached) (dir : List ℕ) (old new : List Ahead) (r : Reached) : Type 0 where
  pub parents : new ≡ old ++ ahead_of dir (dirs dir)
  pub files : r.dirs ≡ dirs_with before.dirs dir (dirs dir)
