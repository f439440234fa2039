-- What a trail keeps while inputs are put off: words of private functions.
use Rattle.std.specs.Prelude.{◌≡◌, ℕ, List, ◌++◌}
use Rattle.gv_logic.specs.Formulas.{Formula}
use Rattle.gv_logic.specs.Kept.{IsWithin}
use Rattle.gv_trail.specs.declared.propagation.Propagation.{Propagation}
use Rattle.gv_trail.specs.Entries.{Entry, State, assignment}
use Rattle.gv_trail.specs.Derived.{IsTrail}
use Rattle.gv_trail.specs.Propagation.{Tells, AreForced}
use Rattle.gv_solver.specs.Marks.{Below}
use Rattle.gv_solver.specs.Clash.{AreAmong}

-- what was derived stays, and decisions that are new are among the set
pub record Grows (set : List ℕ) (old new : State) : Type 0 where
  pub variables : new.variables ≡ old.variables
  pub more : Below (assignment old) (assignment new)
  pub over : (f : Formula) → IsTrail f old → IsTrail f new
  pub among : (whole : List ℕ) → IsWithin set whole → AreAmong whole old.entries → AreAmong whole new.entries

-- what a propagation does to a trail
pub record Settles (f : Formula) (old new : State) (said : Propagation) : Type 0 where
  pub variables : new.variables ≡ old.variables
  pub level : new.level ≡ old.level
  pub more : Below (assignment old) (assignment new)
  pub over : IsTrail f new
  pub among : (set : List ℕ) → AreAmong set old.entries → AreAmong set new.entries
  pub added : (fs : List Entry) × (new.entries ≡ old.entries ++ fs) × AreForced f.clauses old.level (assignment old) fs
  pub told : Tells f.clauses new said

-- a trail without decisions
pub record Rewinds (f : Formula) (old new : State) : Type 0 where
  pub variables : new.variables ≡ old.variables
  pub level : new.level ≡ 0
  pub over : IsTrail f new
  pub among : (set : List ℕ) → AreAmong set new.entries
