-- The values that a package prefers for its flags (PMS chapter 7): on where IUSE has the flag with `+`, else off.
use Rattle.std.specs.Prelude.{ℕ, Bool, List, map}
use Rattle.gv_base.specs.Order.{has_text}
use Rattle.gv_facts.specs.declared.pkg.Pkg.{Pkg}

abbrev pub preferred_on : Pkg → (flag : List ℕ) → Bool
preferred_on p flag = has_text p.iuse_plus flag

-- of each of these flags
abbrev pub preferred : Pkg → List (List ℕ) → List Bool
preferred p flags = map (preferred_on p) flags
