use Rattle.std.proofs.Common.{◌≡◌, ◌+◌, ◌^◌, ◌++◌, length}
use Rattle.gv_logic.specs.Circuits.{AreEarlier, operand_count}
use Rattle.gv_logic.specs.Bytes.{gates_bytes}
use Rattle.gv_logic.proofs.cursor.Reader.gates.Given as goal

abbrev pub invariant-loop-n : goal.invariant-loop-n
invariant-loop-n l = record {
  inputs : l.list.inputs ≡ l.inputs;
  count : length l.list.gates ≡ l.n;
  earlier : AreEarlier l.inputs l.list.gates;
  room : operand_count l.list.gates + l.room ≡ 2 ^ 30;
  bytes : l.initial.self ≡ gates_bytes l.list.gates ++ l.self;
}
