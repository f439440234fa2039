-- The steps of a directory, by what stands at its path.
use Rattle.std.proofs.Common.{◌≡◌, ℕ, List, [], ◌∷◌, ◌++◌, refl}
use Rattle.gv_base.specs.declared.tree.Found.{Found}
use Rattle.gv_load.specs.Directories.{dir_as, dir_at, steps_as, dir_steps}
use Rattle.gv_reading.specs.Look.{Look}
use Rattle.gv_reading.specs.Reading.{read}

pub steps_at : (look : Look) (dir : List ℕ) (found : Found) → found ≡ look.found dir → dir_steps look dir ≡ (read dir ∷ []) ++ steps_as look dir found
unfolding dir_steps
steps_at look dir found is = rw is refl

pub files_are : (look : Look) (dir : List ℕ) (found : Found) → found ≡ look.found dir → dir_as look dir found ≡ dir_at look dir
unfolding dir_at
files_are look dir found is = rw is refl
