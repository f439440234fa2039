use Rattle.std.proofs.Common.{◌≡◌, ◌++◌, drop}
use Rattle.gv_logic.specs.Bytes.{gates_bytes}
use Rattle.gv_logic.proofs.bytes.gate_bytes.Given as goal

abbrev pub invariant-loop-n : goal.invariant-loop-n
invariant-loop-n l = l.bytes.items ++ gates_bytes (drop l.n l.gates.gates) ≡ l.initial.bytes.items ++ gates_bytes l.gates.gates
