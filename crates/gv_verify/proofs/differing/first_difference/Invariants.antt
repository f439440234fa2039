use Rattle.std.proofs.Common.{◌-◌, length}
use Rattle.gv_verify.proofs.DifferLemmas.{Agree}
use Rattle.gv_verify.proofs.differing.first_difference.Given as goal

abbrev pub decreases-loop-n : goal.decreases-loop-n
decreases-loop-n l = length l.one - l.n

abbrev pub invariant-loop-n : goal.invariant-loop-n
invariant-loop-n l = Agree l.one l.two l.n
