use Rattle.std.proofs.Common.{◌∙◌, ◌<◌, [], ap, arith, List, length, get_or}
use Rattle.gv_logic.specs.Circuits.{Gate}
use Rattle.gv_logic.proofs.NodeLemmas.{length_gates, nth_operands}
use Rattle.gv_logic.proofs.nodes.Nodes.operands.Goals as goal

pub returns-clause-operands : goal.returns-clause-operands
returns-clause-operands c other =
    let whole = ap (λ (gs : List Gate). length gs) c.self.view_is in
    let under : c.args.n < length c.self.inside.ops.items = omega (arith, c.requires, whole, length_gates c.self.inside.ops.items c.self.inside.operands c.self.invariant, c.self.invariant) in
    c.at.ensures.list []
    ∙ nth_operands c.self.inside.ops.items c.self.inside.operands c.args.n [] other c.self.invariant under
    ∙ ap (λ (gs : List Gate). (get_or gs c.args.n other).operands) c.self.view_is
