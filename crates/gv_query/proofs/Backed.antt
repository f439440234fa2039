-- From what backed logs say of gates to what is so of a claim, and its bytes.
use Rattle.std.proofs.Common.{refl}
use Rattle.gv_logic.specs.Circuits.{Circuit, IsCircuit}
use Rattle.gv_logic.specs.Encoding.{clause_count}
use Rattle.gv_solver.specs.Laws.{BackedLaw}
use Rattle.gv_cert.specs.Claim.{answer_bytes, log_of, IsLog}
use Rattle.gv_cert.specs.Backing.{Backs, IsBacked}
use Rattle.gv_cert.specs.declared.claim.Claim.{Claim}
use Rattle.gv_cert.specs.declared.claim.Claim.TheVariants.{Refuted, Found}
use Rattle.gv_query.specs.Truth.{IsSo}

pub is_so : (law : BackedLaw) (g : Circuit) (claim : Claim) → IsCircuit g → Backs g claim → IsSo g claim
is_so law g (Refuted log) w b = law.none g log w b
is_so law g (Found bits log) w b = law.bits g bits log w b

pub are_backed : (g : Circuit) (claim : Claim) → Backs g claim → IsLog (clause_count g) (log_of claim) → IsBacked g (answer_bytes g claim)
are_backed g (Refuted log) b sized = record { claim = Refuted log; formed = record { inputs_are = tt; sized = sized }; written = refl; backs = b }
are_backed g (Found bits log) b sized = record { claim = Found bits log; formed = record { inputs_are = b.size; sized = sized }; written = refl; backs = b }
