use Rattle.std.proofs.Common.{◌∙◌, ◌<◌, length, arith}
use Rattle.gv_logic.proofs.Steps.{bytes_step}
use Rattle.gv_logic.proofs.bytes.gate_bytes.Goals as goal

pub loop-n-preserved : goal.loop-n-preserved
loop-n-preserved c =
    let gs = c.args.gates.now.gates in
    let lt : c.loop-n.n < length gs = omega (arith, c.count-n-end.ensures.count) in
    bytes_step gs c.loop-n.n c.op.result c.operands.result.now c.loop-n.bytes.items c.put_gate.new.bytes.items lt c.op.ensures c.operands.ensures.operands c.in_ok-put_gate.ensures
    ∙ c.loop-n.invariant
