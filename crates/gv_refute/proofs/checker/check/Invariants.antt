use Rattle.std.proofs.Common.{◌≡◌, ◌*◌, ◌++◌, take, drop}
use Rattle.gv_logic.specs.Logs.{first_refused, step_clauses}
use Rattle.gv_refute.proofs.checker.check.Given as goal

abbrev pub invariant-loop-i : goal.invariant-loop-i
invariant-loop-i l = record {
  refused : first_refused (2 * l.clauses.variables) (l.clauses.clauses ++ step_clauses (take l.i l.log)) (drop l.i l.log) l.i
      ≡ first_refused (2 * l.clauses.variables) l.clauses.clauses l.log 0;
  marks : l.marks ≡ l.initial.marks;
}
