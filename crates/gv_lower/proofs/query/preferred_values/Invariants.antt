use Rattle.std.proofs.Common.{◌≡◌, ◌++◌, drop, map}
use Rattle.gv_facts.specs.Preferred.{preferred_on}
use Rattle.gv_lower.proofs.query.preferred_values.Given as goal

abbrev pub invariant-loop-flag : goal.invariant-loop-flag
invariant-loop-flag l = l.bits ++ map (preferred_on l.pkg) (drop l.flag-index l.flags) ≡ map (preferred_on l.pkg) l.flags
