-- What a load comes to: the repository, or the first refusal in reading order.
use Rattle.std.specs.Prelude.{◌≡◌, ℕ, ◌≤◌, Option, IfSome, Result, Ok, Err}
use Rattle.gv_base.specs.Causes.{Rose}
use Rattle.gv_base.specs.FileMap.{FileMap}
use Rattle.gv_reading.specs.declared.faults.LoadFault.{LoadFault}
use Rattle.gv_reading.specs.declared.faults.LoadFault.TheVariants.{Tree, NotARepository, Limit, NoMemory}
use Rattle.gv_load.specs.declared.loading.Repo.{Repo}
use Rattle.gv_reading.specs.Reader.{Seen, nothing}
use Rattle.gv_reading.specs.Look.{Look, look_of}
use Rattle.gv_load.specs.Order.{load_steps}
use Rattle.gv_reading.specs.Reading.{IsAsked, Out, passed}
use Rattle.gv_load.specs.Repository.{repository}

abbrev pub if_passed : Out → Repo → Result Repo LoadFault
if_passed (Ok seen) repo = Ok repo
if_passed (Err fault) repo = Err fault

unfoldable pub loading : Look → Result Repo LoadFault
loading look = if_passed (passed look nothing (load_steps look)) (repository look)

-- the load passes, and finds no more files than that
pub record PassesWithin (files : FileMap) (most : ℕ) : Type 0 where
  pub seen : Seen
  pub passes : passed (look_of files) nothing (load_steps (look_of files)) ≡ Ok seen
  pub loads : loading (look_of files) ≡ Ok (repository (look_of files))
  pub within : seen.found ≤ most

-- a load that passes finds exactly so many files
abbrev pub Finds : (files : FileMap) → (found : ℕ) → Type 0
Finds files found = (seen : Seen) → passed (look_of files) nothing (load_steps (look_of files)) ≡ Ok seen → found ≡ seen.found

-- Why a tree was not loaded: a fault of the tree comes with a count that rose, and where the files are told its path is one at which
-- a step asks, behind steps that pass. The other refusals come with a count that stands, and where the files are told each is the first
-- in reading order. Want of memory says nothing
abbrev pub LoadCause : Option FileMap → (before now : ℕ) → LoadFault → Type 0
LoadCause told before now NoMemory = Unit {0}
LoadCause told before now (Tree path) = Rose before now × IfSome told (λ files. IsAsked (look_of files) nothing (load_steps (look_of files)) path)
LoadCause told before now (NotARepository path) = (now ≡ before) × IfSome told (λ files. loading (look_of files) ≡ Err (NotARepository path))
LoadCause told before now (Limit place number) = (now ≡ before) × IfSome told (λ files. loading (look_of files) ≡ Err (Limit place number))
