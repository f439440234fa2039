use Rattle.std.proofs.Common.{◌≡◌, drop}
use Rattle.gv_logic.specs.Circuits.{values_from}
use Rattle.gv_logic.proofs.evaluate.values.Given as goal

abbrev pub invariant-loop-n : goal.invariant-loop-n
invariant-loop-n l = values_from l.places (drop l.n l.gates.gates) ≡ values_from l.bits l.gates.gates
