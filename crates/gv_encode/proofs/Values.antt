-- The gates' values make the clauses true.
use Rattle.std.proofs.Common.{◌≡◌, ℕ, ◌+◌, ◌*◌, ◌/◌, ◌<◌, Bool, true, false, not, ◌||◌, ◌&&◌, List, [], ◌∷◌, ◌++◌, map, take, length, refl, sym, subst, ap, ◌∙◌, length-append, append_assoc, append-nil, arith}
use Rattle.std.specs.List.{AllByRecursion}
use Rattle.gv_logic.specs.declared.gates.Op.{Op}
use Rattle.gv_logic.specs.declared.gates.Op.TheVariants.{And, Or}
use Rattle.gv_logic.specs.Literals.{opposite, lit_true, clause_true, AllTrue}
use Rattle.gv_logic.specs.Circuits.{Gate, Circuit, at, all_lits_true, op_value, gate_value, values_from, values, AreEarlier, IsCircuit}
use Rattle.gv_logic.specs.Encoding.{op_clauses, gate_clauses, clauses_from}
use Rattle.gv_encode.specs.Extends.{Extends}
use Rattle.gv_logic.specs.Opposites.{lit_opposite, even_lit, odd_lit, get_front, get_end}
use Rattle.gv_encode.proofs.Truth.{opposites_true}

pub values_front : (vals : List Bool) (gs : List Gate) (i : ℕ) → i < length vals → at (values_from vals gs) i ≡ at vals i
values_front vals [] i lt = refl
values_front vals (g ∷ gs) i lt =
    values_front (vals ++ gate_value (at vals) g ∷ []) gs i (omega (arith, lt, length-append vals (gate_value (at vals) g ∷ []))) ∙ get_front vals (gate_value (at vals) g) i lt

stable : (v w : ℕ → Bool) (n l : ℕ) → ((i : ℕ) → i < n → v i ≡ w i) → l < 2 * n → lit_true v l ≡ lit_true w l
stable v w n l s lt = let h : l / 2 < n = omega (arith, lt) in rw (s (l / 2) h) refl

all_stable : (v w : ℕ → Bool) (n : ℕ) (ls : List ℕ) → ((i : ℕ) → i < n → v i ≡ w i) → AllByRecursion (λ l. l < 2 * n) ls → all_lits_true v ls ≡ all_lits_true w ls
all_stable v w n [] s a = refl
all_stable v w n (l ∷ ls) s a = rw (stable v w n l s a.0, all_stable v w n ls s a.1) refl

some_stable : (v w : ℕ → Bool) (n : ℕ) (ls : List ℕ) → ((i : ℕ) → i < n → v i ≡ w i) → AllByRecursion (λ l. l < 2 * n) ls → clause_true v ls ≡ clause_true w ls
some_stable v w n [] s a = refl
some_stable v w n (l ∷ ls) s a = rw (stable v w n l s a.0, some_stable v w n ls s a.1) refl

-- the value of a gate rests on the values below n where its operands do
pub value_stable : (v w : ℕ → Bool) (n : ℕ) (x : Gate) → ((i : ℕ) → i < n → v i ≡ w i) → AllByRecursion (λ l. l < 2 * n) x.operands → gate_value v x ≡ gate_value w x
value_stable v w n x s a = by x.op
  where
    by : (o : Op) → op_value v o x.operands ≡ op_value w o x.operands
    by And = all_stable v w n x.operands s a
    by Or = some_stable v w n x.operands s a

pub all_both : (v : ℕ → Bool) (a b : List (List ℕ)) → AllTrue v a → AllTrue v b → AllTrue v (a ++ b)
all_both v [] b p q = q
all_both v (x ∷ xs) b p q = (p.0, all_both v xs b p.1 q)

conj_rest : (v : ℕ → Bool) (g : ℕ) (c : Bool) (ls : List ℕ) → (c ≡ true → all_lits_true v ls ≡ true) → lit_true v (2 * g + 1) ≡ not c → AllTrue v (map (λ l. (2 * g + 1) ∷ l ∷ []) ls)
conj_rest v g c [] f e = tt
conj_rest v g c (l ∷ ls) f e = (rw e (by c (lit_true v l) (λ t. first (lit_true v l) (all_lits_true v ls) (f t))), conj_rest v g c ls (λ t. rest (lit_true v l) (all_lits_true v ls) (f t)) e)
  where
    first : (a b : Bool) → (a && b) ≡ true → a ≡ true
    first true b e = refl
    first false b e = e

    rest : (a b : Bool) → (a && b) ≡ true → b ≡ true
    rest true b e = e
    rest false b e = cc

    by : (c a : Bool) → (c ≡ true → a ≡ true) → (not c || (a || false)) ≡ true
    by true a f = rw (f refl) refl
    by false a f = refl

disj_rest : (v : ℕ → Bool) (g : ℕ) (c : Bool) (ls : List ℕ) → (c ≡ false → clause_true v ls ≡ false) → lit_true v (2 * g) ≡ c → AllTrue v (map (λ l. 2 * g ∷ opposite l ∷ []) ls)
disj_rest v g c [] f e = tt
disj_rest v g c (l ∷ ls) f e = (rw (e, lit_opposite v l) (by c (lit_true v l) (λ t. first (lit_true v l) (clause_true v ls) (f t))), disj_rest v g c ls (λ t. rest (lit_true v l) (clause_true v ls) (f t)) e)
  where
    first : (a b : Bool) → (a || b) ≡ false → a ≡ false
    first true b e = e
    first false b e = refl

    rest : (a b : Bool) → (a || b) ≡ false → b ≡ false
    rest true b e = cc
    rest false b e = e

    by : (c a : Bool) → (c ≡ false → a ≡ false) → (c || (not a || false)) ≡ true
    by true a f = refl
    by false a f = rw (f refl) refl

or_not : (b : Bool) → (b || not b) ≡ true
or_not true = refl
or_not false = refl

not_or : (b : Bool) → (not b || b) ≡ true
not_or true = refl
not_or false = refl

gate_true : (v : ℕ → Bool) (g : ℕ) (x : Gate) → v g ≡ gate_value v x → AllTrue v (gate_clauses g x)
gate_true v g x e = by x.op e
  where
    by : (o : Op) → v g ≡ op_value v o x.operands → AllTrue v (op_clauses g o x.operands)
    by And e = all_both v (map (λ l. (2 * g + 1) ∷ l ∷ []) x.operands) ((2 * g ∷ map opposite x.operands) ∷ []) (conj_rest v g (v g) x.operands (λ t. sym e ∙ t) (odd_lit v g))
        (rw (even_lit v g, opposites_true v x.operands, e) (or_not (all_lits_true v x.operands)), tt)
    by Or e = all_both v (map (λ l. 2 * g ∷ opposite l ∷ []) x.operands) (((2 * g + 1) ∷ x.operands) ∷ []) (disj_rest v g (v g) x.operands (λ t. sym e ∙ t) (even_lit v g))
        (rw (odd_lit v g, e) (not_or (clause_true v x.operands)), tt)

gates_true : (vals : List Bool) (gs : List Gate) → AreEarlier (length vals) gs → AllTrue (at (values_from vals gs)) (clauses_from (length vals) gs)
gates_true vals [] a = tt
gates_true vals (g ∷ gs) a =
    let long : length vals + 1 ≡ length (vals ++ gate_value (at vals) g ∷ []) = sym (length-append vals (gate_value (at vals) g ∷ [])) in
    let lt : length vals < length (vals ++ gate_value (at vals) g ∷ []) = omega (arith, long) in
    let here : at (values_from (vals ++ gate_value (at vals) g ∷ []) gs) (length vals) ≡ gate_value (at vals) g =
    values_front (vals ++ gate_value (at vals) g ∷ []) gs (length vals) lt ∙ get_end vals (gate_value (at vals) g) in
    let same : gate_value (at (values_from (vals ++ gate_value (at vals) g ∷ []) gs)) g ≡ gate_value (at vals) g =
    value_stable (at (values_from (vals ++ gate_value (at vals) g ∷ []) gs)) (at vals) (length vals) g
    (λ i l. values_front (vals ++ gate_value (at vals) g ∷ []) gs i (omega (arith, l, long)) ∙ get_front vals (gate_value (at vals) g) i l) a.0 in
    all_both (at (values_from (vals ++ gate_value (at vals) g ∷ []) gs)) (gate_clauses (length vals) g) (clauses_from (length vals + 1) gs)
    (gate_true (at (values_from (vals ++ gate_value (at vals) g ∷ []) gs)) (length vals) g (here ∙ sym same))
    (subst (λ n. AllTrue (at (values_from (vals ++ gate_value (at vals) g ∷ []) gs)) (clauses_from n gs)) (sym long) (gates_true (vals ++ gate_value (at vals) g ∷ []) gs (subst (λ n. AreEarlier n gs) long a.1)))

values_long : (vals : List Bool) (gs : List Gate) → length (values_from vals gs) ≡ length vals + length gs
values_long vals [] = omega arith
values_long vals (g ∷ gs) = let h = values_long (vals ++ gate_value (at vals) g ∷ []) gs in h ∙ omega (arith, length-append vals (gate_value (at vals) g ∷ []))

values_begin : (vals more : List Bool) (gs : List Gate) → take (length vals) (values_from (vals ++ more) gs) ≡ vals
values_begin vals more [] = front vals more
  where
    front : (xs ys : List Bool) → take (length xs) (xs ++ ys) ≡ xs
    front [] ys = refl
    front (x ∷ xs) ys = ap (λ zs. x ∷ zs) (front xs ys)
values_begin vals more (g ∷ gs) =
    let b = gate_value (at (vals ++ more)) g in
    ap (λ zs. take (length vals) (values_from zs gs)) (append_assoc vals more (gate_value (at (vals ++ more)) g ∷ [])) ∙ values_begin vals (more ++ gate_value (at (vals ++ more)) g ∷ []) gs

pub one : (g : Circuit) (bits : List Bool) → IsCircuit g → length bits ≡ g.inputs → Extends g bits (values g bits)
one g bits w n = record {
  size = values_long bits g.gates ∙ ap (λ k. k + length g.gates) n;
  agrees = ap (λ k. take k (values_from bits g.gates)) (sym n) ∙ (let h : take (length bits) (values_from (bits ++ []) g.gates) ≡ bits = values_begin bits [] g.gates in rw append-nil at h);
  holds = subst (λ k. AllTrue (at (values_from bits g.gates)) (clauses_from k g.gates)) n (gates_true bits g.gates (subst (λ k. AreEarlier k g.gates) (sym n) w.earlier));
}
