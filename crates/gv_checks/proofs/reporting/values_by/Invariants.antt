use Rattle.std.proofs.Common.{◌≡◌, ◌++◌, drop}
use Rattle.gv_entry.specs.Allowed.{values_by}
use Rattle.gv_checks.proofs.reporting.values_by.Given as goal

abbrev pub invariant-loop-i : goal.invariant-loop-i
invariant-loop-i l = l.values ++ values_by (drop l.i l.preferred) (drop l.i l.bits) ≡ values_by l.preferred l.bits
