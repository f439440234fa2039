-- Words of private contracts alone, no rule: gates of which the operands stand apart.
use Rattle.std.specs.Prelude.{ℕ, List, [], ◌∷◌}
use Rattle.gv_logic.specs.Circuits.{Gate}
use Rattle.gv_logic.specs.declared.gates.Op.{Op}

-- each asks what the op of its place says of the operands of its place
abbrev pub gates_of : List Op → List (List ℕ) → List Gate
gates_of [] lists = []
gates_of (op ∷ ops) [] = []
gates_of (op ∷ ops) (operands ∷ lists) = record { op = op; operands = operands } ∷ gates_of ops lists
