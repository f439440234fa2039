use Rattle.std.proofs.Common.{◌≤◌, length, drop}
use Rattle.gv_defaults.specs.Passed.{HasPassed}
use Rattle.gv_defaults.proofs.folding.look_back.Given as goal

abbrev pub invariant-loop-i : goal.invariant-loop-i
invariant-loop-i l = (l.i ≤ length l.words) × HasPassed (drop l.i l.words) l.behind

abbrev pub decreases-loop-i : goal.decreases-loop-i
decreases-loop-i l = l.i
