use Rattle.std.proofs.Common.{◌≡◌, ◌++◌, ◌∷◌, [], take, map}
use Rattle.gv_logic.specs.Literals.{opposite}
use Rattle.gv_encode.proofs.encoding.add_opposite_pairs.Given as goal

abbrev pub invariant-loop-lit : goal.invariant-loop-lit
invariant-loop-lit l = l.clauses ≡ record l.initial.clauses { clauses = l.initial.clauses.clauses ++ map (λ x. l.first ∷ opposite x ∷ []) (take l.lit-index l.lits) }
