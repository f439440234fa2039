use Rattle.std.proofs.Common.{◌≡◌, ◌+◌, ◌++◌, drop, length}
use Rattle.gv_logic.specs.Encoding.{clauses_from}
use Rattle.gv_encode.proofs.encoding.encode.Given as goal

abbrev pub invariant-loop-n : goal.invariant-loop-n
invariant-loop-n l = record {
  variables : l.clauses.variables ≡ l.inputs + length l.gates.gates;
  clauses : l.clauses.clauses ++ clauses_from (l.inputs + l.n) (drop l.n l.gates.gates) ≡ clauses_from l.inputs l.gates.gates;
}
