use Rattle.std.proofs.Common.{◌-◌, length}
use Rattle.gv_trail.specs.Follows.{Passes}
use Rattle.gv_trail.proofs.trail.Trail.pass_lasting.Given as goal

abbrev pub invariant-loop-self : goal.invariant-loop-self
invariant-loop-self l = Passes l.clauses l.fn.self l.self

abbrev pub decreases-loop-self : goal.decreases-loop-self
decreases-loop-self l = length l.self.watched.apart - l.self.watched.lasting
