use Rattle.gv_logic.specs.Encoding.{formula_of}
use Rattle.gv_solver.specs.Found.{IsAnswer}
use Rattle.gv_solver.proofs.Backing.{Laws}
use Rattle.gv_solver.proofs.Gates.{answers}
use Rattle.gv_solver.proofs.solver.solve.Goals as goal

pub returns-clause-answers : goal.returns-clause-answers
returns-clause-answers g c =
    let laws : Laws = record { root = c.encoding_law.ensures.root; steps = c.step_law.ensures.steps; none = c.step_law.ensures.none; least = c.least_bits_law.ensures.least } in
    let a : IsAnswer (formula_of c.args.gates.now) c.args.gates.now.inputs c.args.budget c.in_ok-answer.answer = rw (c.inputs.ensures.inputs, c.requires.encoded) at c.in_ok-answer.ensures in
    answers laws c.args.gates.now c.args.budget c.in_ok-answer.answer c.inputs.ensures.formed a
