-- What a reading of bytes gives: what has these bytes, or none where nothing has them. `Reads` is what
-- `read_gates` says; the rest is of the reader alone.
use Rattle.std.specs.Prelude.{◌≡◌, ℕ, List, Option, Some, None}
use Rattle.gv_logic.specs.Circuits.{Circuit, IsCircuit}
use Rattle.gv_logic.specs.Bytes.{circuit_bytes}

-- the one circuit that has these bytes
abbrev pub Reads : List ℕ → Option Circuit → Type 0
Reads bytes None = (g : Circuit) → IsCircuit g → circuit_bytes g ≡ bytes → ⊥
Reads bytes (Some g) = (circuit_bytes g ≡ bytes) × ((h : Circuit) → IsCircuit h → circuit_bytes h ≡ bytes → h ≡ g)
