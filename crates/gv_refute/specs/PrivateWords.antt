-- A word of private contracts alone, no rule: with which marks a step begins.
use Rattle.std.specs.Prelude.{◌≡◌, ℕ, Bool, true, false, List, Some, None}
use Rattle.gv_logic.specs.Logs.{started}

-- the literals of a clause were made false, or can't be
abbrev pub Starts : List Bool → List ℕ → Bool → List Bool → Type 0
Starts before lits true after = started before lits ≡ Some after
Starts before lits false after = started before lits ≡ None
