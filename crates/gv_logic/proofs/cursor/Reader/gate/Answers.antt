use Rattle.std.proofs.Common.{arith}
use Rattle.gv_logic.proofs.GateBytes.{no_number, no_room, no_operands}
use Rattle.gv_logic.proofs.cursor.Reader.gate.Goals as goal

pub returns-in_default-number : goal.returns-in_default-number
returns-in_default-number c g rest fit = no_number c.args.self.now c.op.new.self c.in-Some.op c.in-Some.ensures c.in_default-number.ensures.number g rest

pub returns-then-count-room : goal.returns-then-count-room
returns-then-count-room c =
    no_room c.args.self.now c.op.new.self c.in-Some.op c.in-Some.ensures c.in-Some-number.count c.args.bound c.args.room c.number.new.self c.in-Some-number.ensures.fits c.if-count-room.true c.in-Some-number.ensures.number

pub returns-in_default-2 : goal.returns-in_default-2
returns-in_default-2 c =
    no_operands c.args.self.now c.op.new.self c.in-Some.op c.in-Some.ensures c.in-Some-number.count c.args.bound c.args.room c.number.new.self c.in-Some-number.ensures.fits (omega arith) c.in-Some-number.ensures.number
    (rw c.in_default-2.is at c.in_ok-operands.ensures)
