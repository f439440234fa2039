-- Answers that a log backs.
use Rattle.std.specs.Prelude.{◌≡◌, Bool, true, List, length}
use Rattle.gv_logic.specs.Circuits.{Circuit, value}
use Rattle.gv_logic.specs.Encoding.{formula_of}
use Rattle.gv_logic.specs.Logs.{Step, IsValid, ProvesNone, ProvesLeast}

-- the answer that no bits give the root true
pub record BacksNone (g : Circuit) (log : List Step) : Type 0 where
  pub valid : IsValid (formula_of g) log
  pub proves : ProvesNone log

-- the answer that these bits are the least that give the root true
pub record BacksBits (g : Circuit) (bits : List Bool) (log : List Step) : Type 0 where
  pub size : length bits ≡ g.inputs
  pub valid : IsValid (formula_of g) log
  pub holds : value g bits ≡ true
  pub proves : ProvesLeast log bits
