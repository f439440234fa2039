-- What private contracts say of a name that was found behind a dollar sign.
use Rattle.std.specs.Prelude.{◌≡◌, ℕ, ◌≤◌, List, length, Some}
use Rattle.gv_defaults.specs.declared.names.Reference.{Reference}
use Rattle.gv_defaults.specs.Names.{Named, name_behind}

abbrev pub named : Reference → Named
named found = record { name = found.name.now; len = found.len }

-- it is the name behind the dollar sign, and within the bytes there
abbrev pub IsNamed : List ℕ → Reference → Type 0
IsNamed bytes found = (name_behind bytes ≡ Some (named found)) × (found.len ≤ length bytes)
