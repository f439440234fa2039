-- Laws of the definitions. Each is the clause of a public function that does nothing.
use Rattle.std.specs.Prelude.{◌≡◌}
use Rattle.gv_logic.specs.Bytes.{circuit_bytes}
use Rattle.gv_logic.specs.Circuits.{Circuit, IsCircuit}

-- bytes are those of one circuit at most
abbrev pub CircuitLaw : Type 0
CircuitLaw = (g h : Circuit) → IsCircuit g → IsCircuit h → circuit_bytes g ≡ circuit_bytes h → g ≡ h
