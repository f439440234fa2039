use Rattle.std.proofs.Common.{◌≡◌, ◌+◌, ℕ, drop}
use Rattle.gv_logic.specs.Literals.{opposite}
use Rattle.gv_trail.specs.Look.{open_to}
use Rattle.gv_trail.proofs.trail.open_to.Given as goal

abbrev pub invariant-loop-at : goal.invariant-loop-at
invariant-loop-at l = (lit : ℕ) → opposite lit ≡ l.against → open_to lit l.lits ≡ l.at + open_to lit (drop l.at l.lits)
