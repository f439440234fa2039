-- The clauses of gates, over the places as variables.
use Rattle.std.specs.Prelude.{ℕ, ◌+◌, ◌*◌, List, [], ◌∷◌, ◌++◌, map, length}
use Rattle.gv_logic.specs.declared.gates.Op.{Op}
use Rattle.gv_logic.specs.declared.gates.Op.TheVariants.{And, Or}
use Rattle.gv_logic.specs.Literals.{opposite}
use Rattle.gv_logic.specs.Formulas.{Formula}
use Rattle.gv_logic.specs.Circuits.{Gate, Circuit}

-- For And at place p over l1 to lm: (not p, li) for each i, then (p, not l1, .., not lm).
-- For Or: (p, not li) for each i, then (not p, l1, .., lm).
abbrev pub op_clauses : ℕ → Op → List ℕ → List (List ℕ)
op_clauses p And ls = map (λ l. (2 * p + 1) ∷ l ∷ []) ls ++ (2 * p ∷ map opposite ls) ∷ []
op_clauses p Or ls = map (λ l. 2 * p ∷ opposite l ∷ []) ls ++ ((2 * p + 1) ∷ ls) ∷ []

abbrev pub gate_clauses : ℕ → Gate → List (List ℕ)
gate_clauses p g = op_clauses p g.op g.operands

-- gate by gate, where the first has place p
abbrev pub clauses_from : ℕ → List Gate → List (List ℕ)
clauses_from p [] = []
clauses_from p (g ∷ gs) = gate_clauses p g ++ clauses_from (p + 1) gs

-- last the clause of the root
abbrev pub all_clauses : Circuit → List (List ℕ)
all_clauses g = clauses_from g.inputs g.gates ++ (g.root ∷ []) ∷ []

-- how many there are
unfoldable pub clause_count : Circuit → ℕ
clause_count g = length (all_clauses g)

abbrev pub formula_of : Circuit → Formula
formula_of g = record { variables = g.inputs + length g.gates; clauses = all_clauses g }
