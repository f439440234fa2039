-- How many clauses gates have.
use Rattle.std.proofs.Common.{◌≡◌, ℕ, ◌+◌, ◌*◌, List, [], ◌∷◌, ◌++◌, length, map, length-append, arith}
use Rattle.std.proofs.lemmas.List.{length-map}
use Rattle.gv_logic.specs.Circuits.{Gate, Circuit, operand_count}
use Rattle.gv_logic.specs.Encoding.{op_clauses, gate_clauses, clauses_from, all_clauses, clause_count}
use Rattle.gv_logic.specs.Literals.{opposite}
use Rattle.gv_logic.specs.declared.gates.Op.{Op}
use Rattle.gv_logic.specs.declared.gates.Op.TheVariants.{And, Or}

count_op : (p : ℕ) (op : Op) (ls : List ℕ) → length (op_clauses p op ls) ≡ length ls + 1
count_op p And ls =
    let pairs : List (List ℕ) = map (λ l. (2 * p + 1) ∷ l ∷ []) ls in
    omega (arith, length-append pairs ((2 * p ∷ map opposite ls) ∷ []), length-map ls (λ (l : ℕ). (2 * p + 1) ∷ l ∷ []))
count_op p Or ls =
    let pairs : List (List ℕ) = map (λ l. 2 * p ∷ opposite l ∷ []) ls in
    omega (arith, length-append pairs (((2 * p + 1) ∷ ls) ∷ []), length-map ls (λ (l : ℕ). 2 * p ∷ opposite l ∷ []))

count_from : (p : ℕ) (gs : List Gate) → length (clauses_from p gs) ≡ operand_count gs + length gs
count_from p [] = omega arith
count_from p (g ∷ gs) = omega (arith, length-append (gate_clauses p g) (clauses_from (p + 1) gs), count_op p g.op g.operands, count_from (p + 1) gs)

pub count_clauses : (g : Circuit) → clause_count g ≡ operand_count g.gates + length g.gates + 1
unfolding clause_count
count_clauses g = omega (arith, length-append (clauses_from g.inputs g.gates) ((g.root ∷ []) ∷ []), count_from g.inputs g.gates)
