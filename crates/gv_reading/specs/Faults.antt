-- Words of private contracts alone, no rule: a fault is told as it is, or memory is wanting.
use Rattle.std.specs.Prelude.{◌≡◌, ◌⊎◌}
use Rattle.gv_reading.specs.declared.faults.LoadFault.{LoadFault}
use Rattle.gv_reading.specs.declared.faults.LoadFault.TheVariants.{NoMemory}

abbrev pub IsOrNoMemory : LoadFault → LoadFault → Type 0
IsOrNoMemory this fault = (fault ≡ NoMemory) ⊎ (fault ≡ this)
