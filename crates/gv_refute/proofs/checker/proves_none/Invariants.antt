use Rattle.std.proofs.Common.{[], drop}
use Rattle.gv_logic.specs.Logs.{HasList, step_clauses}
use Rattle.gv_refute.proofs.checker.proves_none.Given as goal

abbrev pub invariant-loop-step : goal.invariant-loop-step
invariant-loop-step l = HasList [] (step_clauses l.log) → HasList [] (step_clauses (drop l.step-index l.log))
