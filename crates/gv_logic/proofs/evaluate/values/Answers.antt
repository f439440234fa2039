use Rattle.std.proofs.Common.{◌∙◌, ◌+◌, ◌<◌, length, ap, drop, arith}
use Rattle.gv_logic.specs.Circuits.{at, op_value, values_from}
use Rattle.gv_logic.proofs.Steps.{values_step}
use Rattle.gv_logic.proofs.evaluate.values.Goals as goal

pub loop-n-preserved : goal.loop-n-preserved
loop-n-preserved c =
    let gs = c.args.gates.now.gates in
    let lt : c.loop-n.n < length gs = omega (arith, c.count-n-end.ensures.count) in
    ap (λ ps. values_from ps (drop (c.loop-n.n + 1) gs)) c.in_ok-add.ensures.ok
    ∙ values_step gs c.loop-n.n c.op.result c.operands.result.now c.loop-n.places c.op_value-on.result lt c.op.ensures c.operands.ensures.operands (c.op_value-on.ensures ∙ ap (λ ps. op_value (at ps) c.op.result c.operands.result.now) c.items.ensures.items)
    ∙ c.loop-n.invariant
