-- How the steps of a lint end: no public contract rests on these words.
use Rattle.std.specs.Prelude.{◌≡◌, ℕ, List, Option, IfSome, Err}
use Rattle.gv_base.specs.FileMap.{FileMap}
use Rattle.gv_reading.specs.declared.faults.LoadFault.{LoadFault}
use Rattle.gv_reading.specs.declared.faults.LoadFault.TheVariants as loads
use Rattle.gv_load.specs.declared.loading.Repo.{Repo}
use Rattle.gv_reading.specs.Look.{look_of}
use Rattle.gv_report.specs.declared.options.Options.{Options}
use Rattle.gv_usedefaults.specs.declared.walk.Walk.{Walk}
use Rattle.gv_usedefaults.specs.Walk.{walking}
use Rattle.gv_run.specs.Lint.{IsUnlinted, IsWalked, lint_text}
use Rattle.gv_run.specs.Scan.{IsLoaded}

-- the walk of a repository that was loaded is refused so, and the tree didn't fail
abbrev pub IsUnwalkedAt : Option FileMap → (before now : ℕ) → Repo → LoadFault → Type 0
IsUnwalkedAt told before now repo (loads.Limit place number) = (now ≡ before) × IfSome told (λ files. walking (look_of files) repo.profiles ≡ Err (loads.Limit place number))
IsUnwalkedAt told before now repo other = ⊥

-- loading or the walk is, and the tree didn't fail
abbrev pub IsUnmade : Option FileMap → (before now : ℕ) → LoadFault → Type 0
IsUnmade told before now fault = (now ≡ before) × IsUnlinted told fault

-- the text of what was loaded and walked
pub record IsLinted (options : Options) (told : Option FileMap) (text : List ℕ) : Type 0 where
  pub repo : Repo
  pub walk : Walk
  pub loaded : IsLoaded told repo
  pub walked : IsWalked told repo walk
  pub text_is : text ≡ lint_text options repo walk
