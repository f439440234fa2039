-- Gates and their values. Places: the inputs from 0 on, then the gates in order. The literal of
-- place p is 2 * p, its opposite 2 * p + 1.
use Rattle.std.specs.Prelude.{ℕ, ◌+◌, ◌*◌, ◌<◌, ◌≤◌, ◌^◌, Bool, true, false, ◌&&◌, List, [], ◌∷◌, ◌++◌, length, slice_index_or}
use Rattle.std.specs.List.{AllByRecursion}
use Rattle.gv_logic.specs.declared.gates.Op.{Op}
use Rattle.gv_logic.specs.declared.gates.Op.TheVariants.{And, Or}
use Rattle.gv_logic.specs.Literals.{lit_true, clause_true}

-- And or Or over literals of earlier places
pub record Gate : Type 0 where
  pub op : Op
  pub operands : List ℕ

-- inputs and gates, without a root
pub record Draft : Type 0 where
  pub inputs : ℕ
  pub gates : List Gate

pub record Circuit : Type 0 where
  pub inputs : ℕ
  pub gates : List Gate
  pub root : ℕ

abbrev pub operand_count : List Gate → ℕ
operand_count [] = 0
operand_count (g ∷ gs) = length g.operands + operand_count gs

-- operands name earlier places, where the first gate has place p
abbrev pub AreEarlier : ℕ → List Gate → Type 0
AreEarlier p [] = Unit {0}
AreEarlier p (g ∷ gs) = AllByRecursion (λ l. l < 2 * p) g.operands × AreEarlier (p + 1) gs

pub record IsDraft (d : Draft) : Type 0 where
  pub earlier : AreEarlier d.inputs d.gates
  pub places : d.inputs + length d.gates ≤ 2 ^ 30
  pub operands : operand_count d.gates ≤ 2 ^ 30

pub record IsCircuit (g : Circuit) : Type 0 where
  pub earlier : AreEarlier g.inputs g.gates
  pub places : g.inputs + length g.gates ≤ 2 ^ 30
  pub operands : operand_count g.gates ≤ 2 ^ 30
  pub named : g.root < 2 * (g.inputs + length g.gates)

-- the value at a place
abbrev pub at : List Bool → ℕ → Bool
at vals p = slice_index_or vals p false

abbrev pub all_lits_true : (ℕ → Bool) → List ℕ → Bool
all_lits_true v [] = true
all_lits_true v (l ∷ ls) = lit_true v l && all_lits_true v ls

-- And of nothing is true, Or of nothing is false
abbrev pub op_value : (ℕ → Bool) → Op → List ℕ → Bool
op_value v And operands = all_lits_true v operands
op_value v Or operands = clause_true v operands

abbrev pub gate_value : (ℕ → Bool) → Gate → Bool
gate_value v g = op_value v g.op g.operands

-- the values of all places, from those of the first ones
abbrev pub values_from : List Bool → List Gate → List Bool
values_from vals [] = vals
values_from vals (g ∷ gs) = values_from (vals ++ gate_value (at vals) g ∷ []) gs

abbrev pub values : Circuit → List Bool → List Bool
values g bits = values_from bits g.gates

-- the root's value
abbrev pub value : Circuit → List Bool → Bool
value g bits = lit_true (at (values g bits)) g.root
