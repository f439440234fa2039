use Rattle.std.proofs.Common.{◌≡◌, ℕ, ◌<◌, true, false}
use Rattle.std.specs.Prelude.{slice_index_or}
use Rattle.gv_logic.specs.Logs.{HasList, step_clauses, set_clause, least_set}
use Rattle.gv_refute.proofs.checker.proves_least.Given as goal

abbrev pub invariant-loop-input : goal.invariant-loop-input
invariant-loop-input l =
    (i : ℕ) → i < l.input → slice_index_or l.bits i false ≡ true → HasList (set_clause (least_set l.bits i)) (step_clauses l.log)
