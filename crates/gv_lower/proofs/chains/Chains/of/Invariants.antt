use Rattle.std.proofs.Common.{◌≡◌, ◌≤◌, drop, length}
use Rattle.gv_lower.specs.Chains.{HasFirst, later_of}
use Rattle.gv_lower.proofs.chains.Chains.of.Given as goal

abbrev pub invariant-loop-at : goal.invariant-loop-at
invariant-loop-at l = record {
  first : HasFirst l.first.entries l.at (drop l.at l.items);
  later : l.later.items ≡ later_of l.at (drop l.at l.items);
  within : l.at ≤ length l.items;
}

abbrev pub decreases-loop-at : goal.decreases-loop-at
decreases-loop-at l = l.at
