use Rattle.gv_logic.proofs.WholeBytes.{circuit_same}
use Rattle.gv_logic.proofs.laws.circuit_law.Goals as goal

pub returns : goal.returns
returns c = circuit_same
