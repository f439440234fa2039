use Rattle.std.proofs.Common.{◌∙◌, ◌+◌, ◌*◌, ◌<◌, ◌++◌, ◌∷◌, [], ℕ, List, length, ap, sym, subst, arith}
use Rattle.std.specs.List.{AllByRecursion}
use Rattle.gv_logic.specs.declared.gates.Op.{Op}
use Rattle.gv_logic.specs.Circuits.{Gate, Draft}
use Rattle.gv_logic.proofs.ManyGates.{none_next, gates_more, named_same}
use Rattle.gv_logic.proofs.cursor.Reader.gates.Goals as goal

abbrev gate_of : Op → List ℕ → Gate
gate_of op operands = record { op = op; operands = operands }

pub returns-in_default : goal.returns-in_default
returns-in_default c =
    let i = c.loop-n.invariant in
    none_next c.args.inputs c.args.count c.loop-n.n c.loop-n.room c.args.self.now c.loop-n.list.gates c.loop-n.self c.requires (omega arith) i.count i.earlier i.room i.bytes
    (rw c.in_default.is at c.in_ok-node.ensures)

pub add-requires-clause-earlier : goal.add-requires-clause-earlier
add-requires-clause-earlier c =
    let said = rw c.in-Some.is at c.in_ok-node.ensures in
    let operands = c.items-operands.ensures.items ∙ ap (λ (g : Gate). g.operands) c.node.view_is in
    subst (λ lits. AllByRecursion (λ l. l < 2 * (c.loop-n.list.inputs + length c.loop-n.list.gates)) lits) (sym operands)
    (named_same c.args.inputs c.loop-n.n _ _ c.in-Some.node.operands c.loop-n.invariant.inputs c.loop-n.invariant.count said.0.below)

pub loop-n-preserved : goal.loop-n-preserved
loop-n-preserved c =
    let i = c.loop-n.invariant in
    let said = rw c.in-Some.is at c.in_ok-node.ensures in
    let same = ap (gate_of c.node.inside.op) c.items-operands.ensures.items ∙ c.node.view_is in
    gates_more c.args.inputs c.args.count c.loop-n.n c.loop-n.room c.args.self.now c.loop-n.list.gates c.loop-n.self c.requires (omega arith) i.count i.earlier i.room i.bytes
    c.add.new.self.gates c.add.new.self.inputs (length c.items-operands.result.now) c.in-Some.node c.gate.new.self
    (ap (λ (d : Draft). d.inputs) c.in_ok-add.ensures.ok.1 ∙ i.inputs) (ap length (c.items-operands.ensures.items ∙ ap (λ (g : Gate). g.operands) c.node.view_is))
    (ap (λ (d : Draft). d.gates) c.in_ok-add.ensures.ok.1 ∙ ap (λ (g : Gate). c.loop-n.list.gates ++ g ∷ []) same) said.0 said.1
