-- Why bytes are no version: the causes exclude each other, and one of them holds wherever the bytes are none.
use Rattle.std.specs.Prelude.{◌≡◌, ℕ, true, false, List, Some}
use Rattle.gv_version.specs.Form.{has_form, longest_form, long_run}
use Rattle.gv_version.specs.declared.version.VersionFault.{VersionFault}
use Rattle.gv_version.specs.declared.version.VersionFault.TheVariants.{Shape, TooLong, NoMemory}

abbrev pub IsFaultOf : List ℕ → VersionFault → Type 0
IsFaultOf bytes (Shape at) = (has_form bytes ≡ false) × (at ≡ longest_form bytes)
IsFaultOf bytes (TooLong at) = (has_form bytes ≡ true) × (long_run bytes ≡ Some at)
IsFaultOf bytes NoMemory = Unit {0}
