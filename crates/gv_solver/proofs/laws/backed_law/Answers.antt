use Rattle.gv_solver.proofs.Backing.{Laws, backed}
use Rattle.gv_solver.proofs.laws.backed_law.Goals as goal

pub returns : goal.returns
returns c =
    let laws : Laws = record { root = c.encoding_law.ensures.root; steps = c.step_law.ensures.steps; none = c.step_law.ensures.none; least = c.least_bits_law.ensures.least } in
    backed laws
