-- Words of private contracts: why a part of a load of an overlay is refused, and faults that are handed on.
use Rattle.std.specs.Prelude.{◌≡◌, ℕ, List, Option, Some, Result, Ok, Err}
use Rattle.gv_base.specs.Causes.{Rose}
use Rattle.gv_base.specs.FileMap.{FileMap}
use Rattle.gv_reading.specs.declared.faults.LoadFault.{LoadFault}
use Rattle.gv_reading.specs.declared.faults.LoadFault.TheVariants as load
use Rattle.gv_load.specs.declared.loading.Repo.{Repo}
use Rattle.gv_views.specs.Told.{IsTold, told_files}
use Rattle.gv_overlay.specs.declared.faults.OverlayFault.{OverlayFault}
use Rattle.gv_overlay.specs.declared.faults.OverlayFault.TheVariants.{Limit, NoMemory, NotARepository, Tree}
use Rattle.gv_overlay.specs.Overlays.{masters_refusal}

-- a fault of the tree comes with a count that rose, another one with a count that stands, and where the files are told it is so of
-- them
abbrev pub Refused : Option FileMap → (before now : ℕ) → (FileMap → OverlayFault → Type 0) → OverlayFault → Type 0
Refused told before now Is NoMemory = Unit {0}
Refused told before now Is (Tree path) = Rose before now
Refused told before now Is (NotARepository path) = (now ≡ before) × (IsTold told → Is (told_files told) (NotARepository path))
Refused told before now Is (Limit place number) = (now ≡ before) × (IsTold told → Is (told_files told) (Limit place number))

-- the fault of a layout
abbrev pub IsMastersFault : (FileMap → Result (List (List ℕ)) OverlayFault) → FileMap → OverlayFault → Type 0
IsMastersFault named files fault = named files ≡ Err fault

-- the fault with which a load ends, as it is told of a master, and of the overlay's view
abbrev pub IsFaultOf : (LoadFault → OverlayFault) → (FileMap → Result Repo LoadFault) → FileMap → OverlayFault → Type 0
IsFaultOf handed loads files fault = (first : LoadFault) × (loads files ≡ Err first) × (fault ≡ handed first)

-- one of the masters is refused, whatever comes behind them
abbrev pub IsMasterRefused : (folders : List (List ℕ)) → FileMap → OverlayFault → Type 0
IsMasterRefused folders files fault = (rest : Option OverlayFault) → masters_refusal files folders rest ≡ Some fault

-- with what a load ends
abbrev pub LoadEnds : Option FileMap → (before now : ℕ) → (FileMap → Result Repo LoadFault) → LoadFault → Type 0
LoadEnds told before now loads load.NoMemory = Unit {0}
LoadEnds told before now loads (load.Tree path) = Rose before now
LoadEnds told before now loads (load.NotARepository path) = (now ≡ before) × (IsTold told → loads (told_files told) ≡ Err (load.NotARepository path))
LoadEnds told before now loads (load.Limit place number) = (now ≡ before) × (IsTold told → loads (told_files told) ≡ Err (load.Limit place number))

-- what is told of a layout that was read: the masters, or the fault; memory may be wanted
abbrev pub Names : Result (List (List ℕ)) OverlayFault → Result (List (List ℕ)) OverlayFault → Type 0
Names defined (Ok masters) = defined ≡ Ok masters
Names defined (Err NoMemory) = Unit {0}
Names defined (Err (Tree path)) = defined ≡ Err (Tree path)
Names defined (Err (NotARepository path)) = defined ≡ Err (NotARepository path)
Names defined (Err (Limit place number)) = defined ≡ Err (Limit place number)

-- a fault of the tree, at whatever path
abbrev pub IsTreeFault : OverlayFault → Type 0
IsTreeFault (Tree path) = Unit {0}
IsTreeFault NoMemory = Unit {0}
IsTreeFault (NotARepository path) = ⊥
IsTreeFault (Limit place number) = ⊥

-- a fault of a load that is handed on, where memory may be wanted
abbrev pub IsHanded : OverlayFault → OverlayFault → Type 0
IsHanded handed NoMemory = Unit {0}
IsHanded handed (Tree path) = handed ≡ Tree path
IsHanded handed (NotARepository path) = handed ≡ NotARepository path
IsHanded handed (Limit place number) = handed ≡ Limit place number

abbrev pub Hands : (LoadFault → OverlayFault) → LoadFault → OverlayFault → Type 0
Hands handed (load.Tree path) fault = IsTreeFault fault
Hands handed (load.NotARepository path) fault = IsHanded (handed (load.NotARepository path)) fault
Hands handed (load.Limit place number) fault = IsHanded (handed (load.Limit place number)) fault
Hands handed load.NoMemory fault = fault ≡ NoMemory
