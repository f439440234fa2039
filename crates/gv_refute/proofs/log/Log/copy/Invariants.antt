use Rattle.std.proofs.Common.{◌≡◌, take}
use Rattle.gv_refute.proofs.log.Log.copy.Given as goal

abbrev pub invariant-loop-step : goal.invariant-loop-step
invariant-loop-step l = l.log ≡ take l.step-index l.self
