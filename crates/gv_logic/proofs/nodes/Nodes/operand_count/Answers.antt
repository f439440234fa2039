use Rattle.std.proofs.Common.{◌∙◌, ap, sym}
use Rattle.gv_logic.specs.Circuits.{operand_count}
use Rattle.gv_logic.proofs.NodeLemmas.{count_gates}
use Rattle.gv_logic.proofs.nodes.Nodes.operand_count.Goals as goal

pub returns : goal.returns
returns c = c.literals.ensures ∙ sym (count_gates c.self.inside.ops.items c.self.inside.operands c.self.invariant) ∙ ap operand_count c.self.view_is
