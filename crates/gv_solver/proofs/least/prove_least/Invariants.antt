use Rattle.gv_solver.specs.Proving.{Proves}
use Rattle.gv_solver.specs.Search.{Ready}
use Rattle.gv_solver.proofs.least.prove_least.Given as goal

abbrev pub invariant-loop-input : goal.invariant-loop-input
invariant-loop-input l = record { ready : Ready l.clauses l.inputs l.trail; proves : Proves l.clauses l.bits l.input l.fn.log l.log }
