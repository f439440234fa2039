-- Words of private contracts alone, no rule: what the cursor takes from the front of bytes.
use Rattle.std.specs.Prelude.{◌≡◌, ℕ, ◌<◌, ◌≤◌, ◌^◌, List, ◌∷◌, ◌++◌, length, Option, Some, None}
use Rattle.std.specs.List.{AllByRecursion}
use Rattle.gv_logic.specs.declared.gates.Op.{Op}
use Rattle.gv_logic.specs.Circuits.{Gate, Draft, AreEarlier, operand_count, IsDraft}
use Rattle.gv_logic.specs.Bytes.{numbers_bytes, op_byte, gate_bytes, gates_bytes}

-- so many numbers below the bound, from the front of the bytes before; behind them are the bytes after
abbrev pub ReadsNumbers : ℕ → ℕ → List ℕ → List ℕ → Option (List ℕ) → Type 0
ReadsNumbers count bound before after None =
    (ns rest : List ℕ) → length ns ≡ count → AllByRecursion (λ n. n < bound) ns → before ≡ numbers_bytes ns ++ rest → ⊥
ReadsNumbers count bound before after (Some ns) =
    (length ns ≡ count) × AllByRecursion (λ n. n < bound) ns × (before ≡ numbers_bytes ns ++ after)

abbrev pub ReadsOp : List ℕ → List ℕ → Option Op → Type 0
ReadsOp before after None = (op : Op) (rest : List ℕ) → before ≡ op_byte op ∷ rest → ⊥
ReadsOp before after (Some op) = before ≡ op_byte op ∷ after

-- a gate over at most so many literals below the bound
pub record IsFit (bound room : ℕ) (g : Gate) : Type 0 where
  pub below : AllByRecursion (λ l. l < bound) g.operands
  pub few : length g.operands ≤ room

abbrev pub ReadsGate : ℕ → ℕ → List ℕ → List ℕ → Option Gate → Type 0
ReadsGate bound room before after None = (g : Gate) (rest : List ℕ) → IsFit bound room g → before ≡ gate_bytes g ++ rest → ⊥
ReadsGate bound room before after (Some g) = IsFit bound room g × (before ≡ gate_bytes g ++ after)

-- so many gates behind so many inputs
abbrev pub ReadsGates : ℕ → ℕ → List ℕ → List ℕ → Option Draft → Type 0
ReadsGates inputs count before after None =
    (gs : List Gate) (rest : List ℕ) → length gs ≡ count → AreEarlier inputs gs → operand_count gs ≤ 2 ^ 30 → before ≡ gates_bytes gs ++ rest → ⊥
ReadsGates inputs count before after (Some d) = (d.inputs ≡ inputs) × (length d.gates ≡ count) × IsDraft d × (before ≡ gates_bytes d.gates ++ after)
