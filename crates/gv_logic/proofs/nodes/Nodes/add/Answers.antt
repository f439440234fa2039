use Rattle.std.proofs.Common.{◌∙◌, ◌++◌, ◌∷◌, [], ap, List, ℕ}
use Rattle.gv_logic.specs.Circuits.{Gate}
use Rattle.gv_logic.specs.Nodes.{gates_of}
use Rattle.gv_logic.specs.declared.gates.Op.{Op}
use Rattle.gv_logic.proofs.NodeLemmas.{gates_more}
use Rattle.gv_logic.proofs.nodes.Nodes.add.Goals as goal

pub returns-clause-ok : goal.returns-clause-ok
returns-clause-ok c =
    let ops = c.push_reserved.ensures.items ∙ ap (λ (os : List Op). os ++ c.args.op ∷ []) c.in_ok-reserve.ensures.items in
    ap (λ os. gates_of os c.add.new.self) ops
    ∙ ap (λ (ls : List (List ℕ)). gates_of (c.self.inside.ops.items ++ c.args.op ∷ []) ls) c.in_ok-add.ensures.ok
    ∙ gates_more c.self.inside.ops.items c.self.inside.operands c.args.op c.args.operands.now c.self.invariant
    ∙ ap (λ (gs : List Gate). gs ++ record { op = c.args.op; operands = c.args.operands.now } ∷ []) c.self.view_is
