-- The canonical bytes of gates. A number is four bytes, the most significant first.
use Rattle.std.specs.Prelude.{ℕ, List, [], ◌∷◌, ◌++◌, length}
use Rattle.std.specs.Int.{w32, to_be_bytes}
use Rattle.gv_logic.specs.declared.gates.Op.{Op}
use Rattle.gv_logic.specs.declared.gates.Op.TheVariants.{And, Or}
use Rattle.gv_logic.specs.Circuits.{Gate, Circuit}

unfoldable pub number_bytes : ℕ → List ℕ
number_bytes n = to_be_bytes w32 n

abbrev pub numbers_bytes : List ℕ → List ℕ
numbers_bytes [] = []
numbers_bytes (n ∷ ns) = number_bytes n ++ numbers_bytes ns

abbrev pub op_byte : Op → ℕ
op_byte And = 0
op_byte Or = 1

-- one byte for And or Or, the number of operands, the operands
abbrev pub gate_bytes : Gate → List ℕ
gate_bytes g = op_byte g.op ∷ number_bytes (length g.operands) ++ numbers_bytes g.operands

abbrev pub gates_bytes : List Gate → List ℕ
gates_bytes [] = []
gates_bytes (g ∷ gs) = gate_bytes g ++ gates_bytes gs

-- the number of inputs, the number of gates, the gates, the root
abbrev pub circuit_bytes : Circuit → List ℕ
circuit_bytes g = number_bytes g.inputs ++ (number_bytes (length g.gates) ++ (gates_bytes g.gates ++ number_bytes g.root))
