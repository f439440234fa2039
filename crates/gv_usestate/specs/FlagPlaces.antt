-- For the contracts of private functions: places of the rules that name a flag.
use Rattle.std.specs.Prelude.{◌≡◌, ℕ, List, Some, filter, map, slice_get}
use Rattle.gv_facts.specs.Places.{names_flag}
use Rattle.gv_facts.specs.declared.rules.Rule.{Rule}

-- at these places stand the rules that name the flag, in order
abbrev pub AreRulesOf : List Rule → (flag : List ℕ) → (places : List ℕ) → Type 0
AreRulesOf rules flag places = map (slice_get rules) places ≡ map Some (filter (names_flag flag) rules)
