use Rattle.gv_trail.specs.Derived.{IsTrail}
use Rattle.gv_probe.proofs.trail.over.Given as goal

abbrev pub invariant-loop-step : goal.invariant-loop-step
invariant-loop-step l = IsTrail l.clauses l.trail
