use Rattle.std.proofs.Common.{◌<◌, length, arith}
use Rattle.gv_logic.specs.Circuits.{Gate}
use Rattle.gv_encode.proofs.NextGate.{operands_earlier, clauses_step}
use Rattle.gv_encode.proofs.encoding.encode.Goals as goal

pub add_gate-requires-clause-earlier : goal.add_gate-requires-clause-earlier
add_gate-requires-clause-earlier c =
    let gs = c.args.gates.now.gates in
    let lt : c.loop-n.n < length gs = omega (arith, c.count-n-end.ensures.count) in
    let some : Gate = record { op = c.op.result; operands = c.operands.result.now } in
    operands_earlier c.args.gates.now.inputs c.inputs-inputs.result c.loop-n.n gs c.operands.result.now c.inputs-inputs.ensures.inputs lt c.inputs-inputs.ensures.formed.earlier c.operands.ensures.operands some

pub loop-n-preserved : goal.loop-n-preserved
loop-n-preserved c =
    let gs = c.args.gates.now.gates in
    let lt : c.loop-n.n < length gs = omega (arith, c.count-n-end.ensures.count) in
    clauses_step gs c.loop-n.n c.op.result c.operands.result.now lt c.op.ensures c.operands.ensures.operands c.inputs-inputs.result c.loop-n.clauses c.add_gate.new.clauses _ _
    c.loop-n.invariant.variables c.loop-n.invariant.clauses c.in_ok-add_gate.ensures
