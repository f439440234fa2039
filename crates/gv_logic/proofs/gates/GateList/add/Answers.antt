use Rattle.gv_logic.proofs.Drafts.{draft_grows}
use Rattle.gv_logic.proofs.gates.GateList.add.Goals as goal

pub invariant_of-self-2 : goal.invariant_of-self-2
invariant_of-self-2 c =
    draft_grows c.args.self.now c.self.inside.inputs c.self.inside.nodes _ (record { op = c.args.op; operands = c.args.operands.now })
    c.self.view_is c.in_ok-add.ensures.ok c.self.invariant c.requires.earlier c.requires.places c.requires.operands
