use Rattle.std.proofs.Common.{◌≡◌, ◌≤◌, length, take}
use Rattle.gv_version.specs.Order.{stripped}
use Rattle.gv_version.proofs.digits.without_trailing_zeros.Given as goal

abbrev pub invariant-loop-end : goal.invariant-loop-end
invariant-loop-end l = record {
  within : l.end ≤ length l.digits;
  same : stripped (take l.end l.digits) ≡ stripped l.digits;
}

abbrev pub decreases-loop-end : goal.decreases-loop-end
decreases-loop-end l = l.end
