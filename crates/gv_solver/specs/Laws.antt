-- Laws of answers and of kept sets. They are the clauses of public functions that do nothing.
use Rattle.std.specs.Prelude.{ℕ, ◌≤◌, ◌^◌, Bool, List, length}
use Rattle.std.specs.List.{AllByRecursion}
use Rattle.gv_base.specs.Least.{IsLeast, HasNone}
use Rattle.gv_logic.specs.Backed.{BacksNone, BacksBits}
use Rattle.gv_logic.specs.Circuits.{Circuit, IsCircuit, value}
use Rattle.gv_logic.specs.Kept.{IsRising, AreApart}
use Rattle.gv_logic.specs.Logs.{Step}

-- what is backed is so: no bits give the root true, or these are the least that do
pub record BackedLaw : Type 0 where
  pub none : (g : Circuit) (log : List Step) → IsCircuit g → BacksNone g log → HasNone (value g) g.inputs
  pub bits : (g : Circuit) (bits : List Bool) (log : List Step) → IsCircuit g → BacksBits g bits log → IsLeast (value g) g.inputs bits

-- sets of k inputs of which none contains an earlier one
abbrev pub KeptBoundLaw : Type 0
KeptBoundLaw = (k : ℕ) (sets : List (List ℕ)) → AllByRecursion (IsRising 0 k) sets → AreApart sets → length sets ≤ 2 ^ k
