-- Words of private contracts: a fault that is handed on.
use Rattle.std.specs.Prelude.{◌≡◌, ℕ, List, Option, unwrap_or}
use Rattle.gv_base.specs.Causes.{Rose}
use Rattle.gv_base.specs.FileMap.{FileMap}
use Rattle.gv_load.specs.Loading.{LoadCause}
use Rattle.gv_reading.specs.declared.faults.LoadFault.{LoadFault}
use Rattle.gv_reading.specs.declared.faults.LoadFault.TheVariants as loads
use Rattle.gv_load.specs.declared.loading.Repo.{Repo}
use Rattle.gv_checks.specs.declared.fault.JudgeFault.{JudgeFault}
use Rattle.gv_checks.specs.declared.fault.JudgeFault.TheVariants as judges
use Rattle.gv_session.specs.declared.fault.SessionFault.{SessionFault}
use Rattle.gv_session.specs.declared.fault.SessionFault.TheVariants.{Load, Judge, NoMemory}

-- the same fault; one of the tree is that of the call of the tree below that failed, where one did
abbrev pub failed_at : Option (List ℕ) → LoadFault → LoadFault
failed_at failed (loads.Tree path) = loads.Tree (unwrap_or failed path)
failed_at failed (loads.NotARepository path) = loads.NotARepository path
failed_at failed (loads.Limit place number) = loads.Limit place number
failed_at failed loads.NoMemory = loads.NoMemory

-- Why edited files were not loaded. A fault of the tree may be told at a path below the one that was asked for, so that of its path
-- nothing is said
abbrev pub EditedCause : Option FileMap → (before now : ℕ) → LoadFault → Type 0
EditedCause told before now (loads.Tree path) = Rose before now
EditedCause told before now (loads.NotARepository path) = LoadCause told before now (loads.NotARepository path)
EditedCause told before now (loads.Limit place number) = LoadCause told before now (loads.Limit place number)
EditedCause told before now loads.NoMemory = Unit {0}

-- the same fault, and want of memory by itself
abbrev pub HandsLoad : LoadFault → SessionFault → Type 0
HandsLoad (loads.Tree path) fault = fault ≡ Load (loads.Tree path)
HandsLoad (loads.NotARepository path) fault = fault ≡ Load (loads.NotARepository path)
HandsLoad (loads.Limit place number) fault = fault ≡ Load (loads.Limit place number)
HandsLoad loads.NoMemory fault = fault ≡ NoMemory

-- with the repository
abbrev pub HandsJudge : Repo → JudgeFault → SessionFault → Type 0
HandsJudge repo (judges.Spent name sets) fault = fault ≡ Judge (judges.Spent name sets) repo
HandsJudge repo (judges.Limit place number) fault = fault ≡ Judge (judges.Limit place number) repo
HandsJudge repo judges.NoMemory fault = fault ≡ NoMemory
