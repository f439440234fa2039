-- Assignments of all places that bits of the inputs extend to.
use Rattle.std.specs.Prelude.{◌≡◌, ◌+◌, Bool, List, length, take}
use Rattle.gv_logic.specs.Literals.{AllTrue}
use Rattle.gv_logic.specs.Circuits.{Circuit, at}
use Rattle.gv_logic.specs.Encoding.{clauses_from}

-- the assignment has a value for each place, those of the inputs are the bits, and every clause but
-- the last is true
pub record Extends (g : Circuit) (bits all : List Bool) : Type 0 where
  pub size : length all ≡ g.inputs + length g.gates
  pub agrees : take g.inputs all ≡ bits
  pub holds : AllTrue (at all) (clauses_from g.inputs g.gates)
