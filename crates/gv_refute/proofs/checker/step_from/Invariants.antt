use Rattle.std.proofs.Common.{drop}
use Rattle.gv_logic.specs.Logs.{HasList, step_clauses, set_clause, least_set}
use Rattle.gv_refute.proofs.checker.step_from.Given as goal

abbrev pub invariant-loop-place : goal.invariant-loop-place
invariant-loop-place l =
    HasList (set_clause (least_set l.bits l.input)) (step_clauses (drop l.fn.from l.log)) → HasList (set_clause (least_set l.bits l.input)) (step_clauses (drop l.place l.log))
