-- Words of private contracts alone, no rule: the files below a path, and texts each behind a byte.
use Rattle.std.specs.Prelude.{ℕ, List, filter, [], ◌∷◌, ◌++◌}
use Rattle.std.specs.Option.{is_some}
use Rattle.std.specs.FinMap.{entries}
use Rattle.gv_base.specs.FileMap.{FileMap}
use Rattle.gv_base.specs.Listing.{below}

-- each text behind the byte
abbrev pub each_behind : ℕ → List (List ℕ) → List ℕ
each_behind byte [] = []
each_behind byte (text ∷ texts) = byte ∷ (text ++ each_behind byte texts)

-- the files under the path, in byte order of their paths
abbrev pub files_below : FileMap → List ℕ → List (List ℕ × List ℕ)
files_below files path = filter (λ e. is_some (below path e.0)) (entries files)
