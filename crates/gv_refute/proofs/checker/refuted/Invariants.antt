use Rattle.std.proofs.Common.{◌≡◌, ◌++◌, take, drop, length}
use Rattle.gv_logic.specs.Logs.{refuted, step_clauses}
use Rattle.gv_refute.proofs.checker.refuted.Given as goal

abbrev pub invariant-loop-k : goal.invariant-loop-k
invariant-loop-k l = record {
  refuted : refuted (drop l.k l.hints) (l.clauses.clauses ++ step_clauses (take l.i l.log)) l.marks ≡ refuted l.hints (l.clauses.clauses ++ step_clauses (take l.i l.log)) l.initial.marks;
  count : length l.marks ≡ length l.initial.marks;
}
