use Rattle.std.proofs.Common.{◌≡◌, ◌++◌, drop}
use Rattle.gv_logic.specs.Bytes.{numbers_bytes}
use Rattle.gv_logic.proofs.bytes.put_numbers.Given as goal

abbrev pub invariant-loop-lit : goal.invariant-loop-lit
invariant-loop-lit l = l.bytes.items ++ numbers_bytes (drop l.lit-index l.lits) ≡ l.initial.bytes.items ++ numbers_bytes l.lits
