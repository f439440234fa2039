-- Words of private contracts alone, no rule: directories that are gone to one by one.
use Rattle.std.specs.Prelude.{◌≡◌, ℕ, if◌then◌else◌, List, [], ◌∷◌, ◌++◌, reverse}
use Rattle.gv_base.specs.Order.{has_text}
use Rattle.gv_reading.specs.declared.faults.LoadFault.{LoadFault}
use Rattle.gv_reading.specs.declared.faults.LoadFault.TheVariants.{NotARepository}
use Rattle.gv_usedefaults.specs.declared.file_kinds.LineFile.{LineFile}
use Rattle.gv_usedefaults.specs.declared.line_walk.Turning.{Turning}
use Rattle.gv_usedefaults.specs.LineFiles.{dir_line_files, dir_line_steps, parents_at}
use Rattle.gv_reading.specs.Look.{Look}
use Rattle.gv_reading.specs.Reading.{Step}

-- the next one first
abbrev pub ahead_of : Turning → List (List ℕ)
ahead_of t = reverse t.ahead.items

-- the set has the directories that were read
abbrev pub IsTurning : Turning → Type 0
IsTurning t = (text : List ℕ) → has_text t.set.keys text ≡ has_text t.order text

-- one directory: nothing where it was read before
abbrev pub turn_steps : Look → (before : List (List ℕ)) → List ℕ → List Step
turn_steps look before dir = if has_text before dir then [] else dir_line_steps look dir

abbrev pub turn_files : Look → (before : List (List ℕ)) → List ℕ → List LineFile
turn_files look before dir = if has_text before dir then [] else dir_line_files look dir

abbrev pub turn_order : (before : List (List ℕ)) → List ℕ → List (List ℕ)
turn_order before dir = if has_text before dir then before else before ++ dir ∷ []

abbrev pub turn_ahead : Look → (before : List (List ℕ)) → List ℕ → List (List ℕ) → List (List ℕ)
turn_ahead look before dir ahead = if has_text before dir then ahead else parents_at look dir ++ ahead

-- behind a turn
pub record HasTurned (look : Look) (before : Turning) (dir : List ℕ) (after : Turning) : Type 0 where
  pub files : after.files.items ≡ before.files.items ++ turn_files look before.order dir
  pub order : after.order ≡ turn_order before.order dir
  pub ahead : ahead_of after ≡ turn_ahead look before.order dir (ahead_of before)

-- behind a directory that wasn't read before
pub record HasEntered (look : Look) (before : Turning) (dir : List ℕ) (after : Turning) : Type 0 where
  pub files : after.files.items ≡ before.files.items ++ dir_line_files look dir
  pub ahead : ahead_of after ≡ parents_at look dir ++ ahead_of before

-- a fault that doesn't say that a file isn't there
abbrev pub IsNoNeed : LoadFault → Type 0
IsNoNeed (NotARepository path) = ⊥
IsNoNeed fault = Unit {0}
