-- Clauses over so many variables.
use Rattle.std.specs.Prelude.{ℕ, ◌*◌, ◌<◌, ◌^◌, List, length}
use Rattle.std.specs.List.{AllByRecursion}

pub record Formula : Type 0 where
  pub variables : ℕ
  pub clauses : List (List ℕ)

-- each literal is below n
abbrev pub InRange : ℕ → List (List ℕ) → Type 0
InRange n cs = AllByRecursion (AllByRecursion (λ lit. lit < n)) cs

-- the literals are of the variables, and a clause has a number of 32 bits
pub record IsFormula (f : Formula) : Type 0 where
  pub named : InRange (2 * f.variables) f.clauses
  pub few : length f.clauses < 2 ^ 32
