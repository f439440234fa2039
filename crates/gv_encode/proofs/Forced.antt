-- The clauses of gates force the values.
use Rattle.std.proofs.Common.{◌≡◌, ℕ, zero, suc, ◌+◌, ◌*◌, ◌<◌, ◌≤◌, Bool, true, false, not, ◌||◌, List, [], ◌∷◌, ◌++◌, map, take, length, get_or, refl, sym, subst, ap, ◌∙◌, length-append, arith}
use Rattle.std.proofs.lemmas.List.{take_more, length-take-le}
use Rattle.gv_logic.specs.declared.gates.Op.{Op}
use Rattle.gv_logic.specs.declared.gates.Op.TheVariants.{And, Or}
use Rattle.gv_logic.specs.Literals.{opposite, lit_true, clause_true, AllTrue}
use Rattle.gv_logic.specs.Circuits.{Gate, Circuit, at, all_lits_true, op_value, gate_value, values_from, values, AreEarlier, IsCircuit}
use Rattle.gv_logic.specs.Encoding.{op_clauses, gate_clauses, clauses_from}
use Rattle.gv_encode.specs.Extends.{Extends}
use Rattle.gv_logic.specs.Opposites.{lit_opposite, even_lit, odd_lit}
use Rattle.gv_encode.proofs.Truth.{opposites_true}
use Rattle.gv_encode.proofs.Values.{value_stable}

pub left_true : (v : ℕ → Bool) (a b : List (List ℕ)) → AllTrue v (a ++ b) → AllTrue v a
left_true v [] b p = tt
left_true v (x ∷ xs) b p = (p.0, left_true v xs b p.1)

pub right_true : (v : ℕ → Bool) (a b : List (List ℕ)) → AllTrue v (a ++ b) → AllTrue v b
right_true v [] b p = p
right_true v (x ∷ xs) b p = right_true v xs b p.1

other : (a b : Bool) → (a || (b || false)) ≡ true → a ≡ false → b ≡ true
other true b e f = cc
other false true e f = refl
other false false e f = e

either : (a b : Bool) → (a || b) ≡ true → a ≡ false → b ≡ true
either true b e f = cc
either false b e f = e

true_not : (b : Bool) → not b ≡ true → b ≡ false
true_not true e = cc
true_not false e = refl

-- the gate is on, so all operands are true
conj_on : (v : ℕ → Bool) (g : ℕ) (ls : List ℕ) → lit_true v (2 * g + 1) ≡ false → AllTrue v (map (λ l. (2 * g + 1) ∷ l ∷ []) ls) → all_lits_true v ls ≡ true
conj_on v g [] f a = refl
conj_on v g (l ∷ ls) f a = rw (other (lit_true v (2 * g + 1)) (lit_true v l) a.0 f, conj_on v g ls f a.1) refl

-- the gate is off, so no operand is true
disj_off : (v : ℕ → Bool) (g : ℕ) (ls : List ℕ) → lit_true v (2 * g) ≡ false → AllTrue v (map (λ l. 2 * g ∷ opposite l ∷ []) ls) → clause_true v ls ≡ false
disj_off v g [] f a = refl
disj_off v g (l ∷ ls) f a =
    let t = other (lit_true v (2 * g)) (lit_true v (opposite l)) a.0 f in
    rw (true_not (lit_true v l) (sym (lit_opposite v l) ∙ t), disj_off v g ls f a.1) refl

gate_forced : (v : ℕ → Bool) (g : ℕ) (x : Gate) → AllTrue v (gate_clauses g x) → v g ≡ gate_value v x
gate_forced v g x a = by x.op a
  where
    conj : (b : Bool) → v g ≡ b → AllTrue v (map (λ l. (2 * g + 1) ∷ l ∷ []) x.operands) → (lit_true v (2 * g) || clause_true v (map opposite x.operands)) ≡ true → b ≡ all_lits_true v x.operands
    conj true e p q = sym (conj_on v g x.operands (odd_lit v g ∙ ap not e) p)
    conj false e p q = sym (true_not (all_lits_true v x.operands) (sym (opposites_true v x.operands) ∙ either (lit_true v (2 * g)) (clause_true v (map opposite x.operands)) q (even_lit v g ∙ e)))

    disj : (b : Bool) → v g ≡ b → AllTrue v (map (λ l. 2 * g ∷ opposite l ∷ []) x.operands) → (lit_true v (2 * g + 1) || clause_true v x.operands) ≡ true → b ≡ clause_true v x.operands
    disj true e p q = sym (either (lit_true v (2 * g + 1)) (clause_true v x.operands) q (odd_lit v g ∙ ap not e))
    disj false e p q = sym (disj_off v g x.operands (even_lit v g ∙ e) p)

    by : (o : Op) → AllTrue v (op_clauses g o x.operands) → v g ≡ op_value v o x.operands
    by And a =
        let pairs : List (List ℕ) = map (λ l. (2 * g + 1) ∷ l ∷ []) x.operands in
        let whole : List (List ℕ) = (2 * g ∷ map opposite x.operands) ∷ [] in
        conj (v g) refl (left_true v pairs whole a) (right_true v pairs whole a).0
    by Or a =
        let pairs : List (List ℕ) = map (λ l. 2 * g ∷ opposite l ∷ []) x.operands in
        let whole : List (List ℕ) = ((2 * g + 1) ∷ x.operands) ∷ [] in
        disj (v g) refl (left_true v pairs whole a) (right_true v pairs whole a).0

take_all : (all : List Bool) (n : ℕ) → length all ≡ n → take n all ≡ all
take_all [] zero e = refl
take_all [] (suc n) e = refl
take_all (x ∷ xs) zero e = absurd (omega (arith, e))
take_all (x ∷ xs) (suc n) e = ap (λ zs. x ∷ zs) (take_all xs n (omega (arith, e)))

front_at : (all : List Bool) (n i : ℕ) → i < n → get_or (take n all) i false ≡ get_or all i false
front_at [] zero i lt = refl
front_at [] (suc n) i lt = refl
front_at (x ∷ xs) zero i lt = absurd (omega (arith, lt))
front_at (x ∷ xs) (suc n) zero lt = refl
front_at (x ∷ xs) (suc n) (suc i) lt = front_at xs n i (omega (arith, lt))

take_next : (all : List Bool) (n : ℕ) → n < length all → take (n + 1) all ≡ take n all ++ get_or all n false ∷ []
take_next all n lt = take_more all n false lt

forced : (vals all : List Bool) (gs : List Gate) → AreEarlier (length vals) gs → length all ≡ length vals + length gs → take (length vals) all ≡ vals
    → AllTrue (at all) (clauses_from (length vals) gs) → all ≡ values_from vals gs
forced vals all [] a l t h = sym (take_all all (length vals) (omega (arith, l))) ∙ t
forced vals all (g ∷ gs) a l t h =
    let pairs = left_true (at all) (gate_clauses (length vals) g) (clauses_from (length vals + 1) gs) h in
    let here = gate_forced (at all) (length vals) g pairs in
    let same : gate_value (at all) g ≡ gate_value (at vals) g =
    value_stable (at all) (at vals) (length vals) g (λ i lt. sym (front_at all (length vals) i lt) ∙ ap (λ zs. get_or zs i false) t) a.0 in
    let long : length vals + 1 ≡ length (vals ++ gate_value (at vals) g ∷ []) = sym (length-append vals (gate_value (at vals) g ∷ [])) in
    let lt : length vals < length all = omega (arith, l) in
    let next : take (length vals + 1) all ≡ vals ++ gate_value (at vals) g ∷ [] =
    take_next all (length vals) lt ∙ ap (λ zs. zs ++ get_or all (length vals) false ∷ []) t ∙ ap (λ b. vals ++ b ∷ []) (here ∙ same) in
    forced (vals ++ gate_value (at vals) g ∷ []) all gs (subst (λ n. AreEarlier n gs) long a.1) (omega (arith, l, long))
    (subst (λ n. take n all ≡ vals ++ gate_value (at vals) g ∷ []) long next)
    (subst (λ n. AllTrue (at all) (clauses_from n gs)) long (right_true (at all) (gate_clauses (length vals) g) (clauses_from (length vals + 1) gs) h))

take_long : (all : List Bool) (n : ℕ) → n ≤ length all → length (take n all) ≡ n
take_long all n le = length-take-le n all le

pub only : (g : Circuit) (bits all : List Bool) → IsCircuit g → Extends g bits all → all ≡ values g bits
only g bits all w x =
    let n : length bits ≡ g.inputs = ap length (sym x.agrees) ∙ take_long all g.inputs (omega (arith, x.size)) in
    forced bits all g.gates (subst (λ k. AreEarlier k g.gates) (sym n) w.earlier) (x.size ∙ ap (λ k. k + length g.gates) (sym n))
    (ap (λ k. take k all) n ∙ x.agrees) (subst (λ k. AllTrue (at all) (clauses_from k g.gates)) (sym n) x.holds)
