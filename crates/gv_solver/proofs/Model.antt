-- A partial assignment that leaves no clause false or unit gives the gates their values.
use Rattle.std.proofs.Common.{◌≡◌, ◌⊎◌, inl, inr, ℕ, ◌+◌, ◌*◌, ◌/◌, ◌%◌, ◌<◌, ◌≤◌, Bool, true, false, cond, not, ◌||◌, ◌&&◌, List, [], ◌∷◌, ◌++◌, map, length, refl, sym, ap, subst, ◌∙◌, length-append, arith}
use Rattle.std.specs.List.{AllByRecursion}
use Rattle.std.proofs.lemmas.Bool.{cases_lt}
use Rattle.gv_logic.specs.declared.gates.Op.{Op}
use Rattle.gv_logic.specs.declared.gates.Op.TheVariants.{And, Or}
use Rattle.gv_logic.specs.Circuits.{Gate, Circuit, at, all_lits_true, op_value, gate_value, values_from, value, AreEarlier, IsCircuit}
use Rattle.gv_logic.specs.Encoding.{op_clauses, gate_clauses, clauses_from, all_clauses}
use Rattle.gv_logic.specs.Literals.{opposite, lit_true, clause_true}
use Rattle.gv_logic.specs.Partial.{is_true, Quiet, AllQuiet, IsProper}
use Rattle.gv_solver.specs.Found.{bits_to}
use Rattle.gv_solver.specs.Search.{IsAssigned}
use Rattle.gv_solver.proofs.Core.{quiet_true}
use Rattle.gv_solver.proofs.Forced.{get_bits, length-bits}
use Rattle.gv_logic.specs.Opposites.{and_true, lit_opposite, opposite_even, opposite_odd, opposite_twice, or_false}
use Rattle.gv_solver.proofs.Truth.{values_long, lit_even, lit_odd, front_lit, even_or_odd, not_true_is, true_not}

-- each literal that is true by the values is true
pub record Knows (on vals : List Bool) : Type 0 where
  pub lit : (l : ℕ) → l < 2 * length vals → lit_true (at vals) l ≡ true → is_true on l ≡ true

knows_off : (on vals : List Bool) (l : ℕ) → Knows on vals → l < 2 * length vals → lit_true (at vals) l ≡ false → is_true on (opposite l) ≡ true
knows_off on vals l k lt e = k.lit (opposite l) (below l lt) (lit_opposite (at vals) l ∙ ap not e)
  where
    below : (m : ℕ) → m < 2 * length vals → opposite m < 2 * length vals
    below m lt = elim (even_or_odd m) [
      | inl e ↦ let s : opposite m ≡ 2 * (m / 2) + 1 = ap opposite e ∙ opposite_even (m / 2) in omega (arith, lt, e, s)
      | inr e ↦ let s : opposite m ≡ 2 * (m / 2) = ap opposite e ∙ opposite_odd (m / 2) in omega (arith, lt, e, s)
    ]

quiet_left : (on : List Bool) (a b : List (List ℕ)) → AllQuiet on (a ++ b) → AllQuiet on a
quiet_left on [] b q = tt
quiet_left on (x ∷ xs) b q = (q.0, quiet_left on xs b q.1)

quiet_right : (on : List Bool) (a b : List (List ℕ)) → AllQuiet on (a ++ b) → AllQuiet on b
quiet_right on [] b q = q
quiet_right on (x ∷ xs) b q = quiet_right on xs b q.1

-- two literals, of which the second is false
two : (on : List Bool) (g l : ℕ) → IsProper on → Quiet on (g ∷ l ∷ []) → is_true on (opposite l) ≡ true → is_true on g ≡ true
two on g l p q t = quiet_true on (g ∷ l ∷ []) g p q (inl refl) (inl refl, (inr t, tt))

and_false : (a b : Bool) → (a && b) ≡ false → (a ≡ false) ⊎ (b ≡ false)
and_false true b e = inr e
and_false false b e = inl refl

or_true : (a b : Bool) → (a || b) ≡ true → (a ≡ true) ⊎ (b ≡ true)
or_true true b e = inl refl
or_true false b e = inr e

module _ (on vals : List Bool) (p : IsProper on) (k : Knows on vals) (g : ℕ) where
  conj_off : (ls : List ℕ) → AllByRecursion (λ l. l < 2 * length vals) ls → AllQuiet on (map (λ l. (2 * g + 1) ∷ l ∷ []) ls) → all_lits_true (at vals) ls ≡ false → is_true on (2 * g + 1) ≡ true
  conj_off [] a q e = cc
  conj_off (l ∷ ls) a q e = elim (and_false (lit_true (at vals) l) (all_lits_true (at vals) ls) e) [
    | inl h ↦ two on (2 * g + 1) l p q.0 (knows_off on vals l k a.0 h)
    | inr h ↦ conj_off ls a.1 q.1 h
  ]

  conj_others : (ls : List ℕ) → AllByRecursion (λ l. l < 2 * length vals) ls → all_lits_true (at vals) ls ≡ true → AllByRecursion (λ x. (x ≡ 2 * g) ⊎ (is_true on (opposite x) ≡ true)) (map opposite ls)
  conj_others [] a e = tt
  conj_others (l ∷ ls) a e = let h = and_true (lit_true (at vals) l) (all_lits_true (at vals) ls) e in (inr (rw (opposite_twice l) (k.lit l a.0 h.0)), conj_others ls a.1 h.1)

  disj_on : (ls : List ℕ) → AllByRecursion (λ l. l < 2 * length vals) ls → AllQuiet on (map (λ l. 2 * g ∷ opposite l ∷ []) ls) → clause_true (at vals) ls ≡ true → is_true on (2 * g) ≡ true
  disj_on [] a q e = cc
  disj_on (l ∷ ls) a q e = elim (or_true (lit_true (at vals) l) (clause_true (at vals) ls) e) [
    | inl h ↦ two on (2 * g) (opposite l) p q.0 (rw (opposite_twice l) (k.lit l a.0 h))
    | inr h ↦ disj_on ls a.1 q.1 h
  ]

  disj_others : (ls : List ℕ) → AllByRecursion (λ l. l < 2 * length vals) ls → clause_true (at vals) ls ≡ false → AllByRecursion (λ x. (x ≡ 2 * g + 1) ⊎ (is_true on (opposite x) ≡ true)) ls
  disj_others [] a e = tt
  disj_others (l ∷ ls) a e = let h = or_false (lit_true (at vals) l) (clause_true (at vals) ls) e in (inr (knows_off on vals l k a.0 h.0), disj_others ls a.1 h.1)

  -- the gate's literal that its value makes true
  gate_on : (x : Gate) → AllByRecursion (λ l. l < 2 * length vals) x.operands → AllQuiet on (gate_clauses g x) → (b : Bool) → gate_value (at vals) x ≡ b → is_true on (cond b (2 * g) (2 * g + 1)) ≡ true
  gate_on x a q b e = by x.op q b e
    where
      by : (o : Op) → AllQuiet on (op_clauses g o x.operands) → (b : Bool) → op_value (at vals) o x.operands ≡ b → is_true on (cond b (2 * g) (2 * g + 1)) ≡ true
      by And q true e =
          quiet_true on (2 * g ∷ map opposite x.operands) (2 * g) p (quiet_right on (map (λ l. (2 * g + 1) ∷ l ∷ []) x.operands) ((2 * g ∷ map opposite x.operands) ∷ []) q).0 (inl refl) (inl refl, conj_others x.operands a e)
      by And q false e = conj_off x.operands a (quiet_left on (map (λ l. (2 * g + 1) ∷ l ∷ []) x.operands) ((2 * g ∷ map opposite x.operands) ∷ []) q) e
      by Or q true e = disj_on x.operands a (quiet_left on (map (λ l. 2 * g ∷ opposite l ∷ []) x.operands) (((2 * g + 1) ∷ x.operands) ∷ []) q) e
      by Or q false e =
          quiet_true on ((2 * g + 1) ∷ x.operands) (2 * g + 1) p (quiet_right on (map (λ l. 2 * g ∷ opposite l ∷ []) x.operands) (((2 * g + 1) ∷ x.operands) ∷ []) q).0 (inl refl) (inl refl, disj_others x.operands a e)

-- one more value
knows_more : (on vals : List Bool) (b : Bool) → Knows on vals → is_true on (cond b (2 * length vals) (2 * length vals + 1)) ≡ true → Knows on (vals ++ b ∷ [])
knows_more on vals b k t = record {
  lit = λ l lt e. elim (cases_lt l (2 * length vals)) [
    | inl s ↦ k.lit l s (sym (front_lit vals b l s) ∙ e)
    | inr g ↦ last l (top l g (rw (length-append vals (b ∷ [])) at lt)) e
  ];
}
  where
    top : (l : ℕ) → 2 * length vals ≤ l → l < 2 * (length vals + 1) → (l ≡ 2 * length vals) ⊎ (l ≡ 2 * length vals + 1)
    top l g lt = elim (cases_lt l (2 * length vals + 1)) [ inl s ↦ inl (omega (arith, s, g)) | inr s ↦ inr (omega (arith, s, lt)) ]

    is_b : (c : Bool) → b ≡ c → is_true on (cond c (2 * length vals) (2 * length vals + 1)) ≡ true
    is_b c q = subst (λ d. is_true on (cond d (2 * length vals) (2 * length vals + 1)) ≡ true) q t

    last : (l : ℕ) → (l ≡ 2 * length vals) ⊎ (l ≡ 2 * length vals + 1) → lit_true (at (vals ++ b ∷ [])) l ≡ true → is_true on l ≡ true
    last l h e = elim h [
      | inl s ↦ rw s (is_b true (sym (lit_even vals b) ∙ (rw s at e)))
      | inr s ↦ rw s (is_b false (true_not b (sym (lit_odd vals b) ∙ (rw s at e))))
    ]

knows_all : (on vals : List Bool) (gs : List Gate) → IsProper on → Knows on vals → AreEarlier (length vals) gs → AllQuiet on (clauses_from (length vals) gs) → Knows on (values_from vals gs)
knows_all on vals [] p k a q = k
knows_all on vals (g ∷ gs) p k a q =
    let b = gate_value (at vals) g in
    let t = gate_on on vals p k (length vals) g a.0 (quiet_left on (gate_clauses (length vals) g) (clauses_from (length vals + 1) gs) q) (gate_value (at vals) g) refl in
    let long : length vals + 1 ≡ length (vals ++ gate_value (at vals) g ∷ []) = sym (length-append vals (gate_value (at vals) g ∷ [])) in
    knows_all on (vals ++ gate_value (at vals) g ∷ []) gs p (knows_more on vals (gate_value (at vals) g) k t) (subst (λ n. AreEarlier n gs) long a.1)
    (subst (λ n. AllQuiet on (clauses_from n gs)) long (quiet_right on (gate_clauses (length vals) g) (clauses_from (length vals + 1) gs) q))

knows_inputs : (on : List Bool) (n : ℕ) → IsProper on → ((j : ℕ) → j < n → IsAssigned on j) → Knows on (bits_to on n)
knows_inputs on n p a = record {
  lit = λ l lt e. elim (even_or_odd l) [
    | inl s ↦ let i : l / 2 < n = half l (rw (length-bits on n) at lt) in rw s (sym (get_bits on n (l / 2) i) ∙ even_lit (bits_to on n) (l / 2) (rw s at e))
    | inr s ↦ let i : l / 2 < n = half l (rw (length-bits on n) at lt) in rw s (odd_on (l / 2) (a (l / 2) i) (sym (get_bits on n (l / 2) i) ∙ odd_lit (bits_to on n) (l / 2) (rw s at e)))
  ];
}
  where
    half : (l : ℕ) → l < 2 * n → l / 2 < n
    half l lt = omega (arith, lt)

    even_lit : (vals : List Bool) (i : ℕ) → lit_true (at vals) (2 * i) ≡ true → at vals i ≡ true
    even_lit vals i e = let r : (2 * i) % 2 ≡ 0 = omega arith in let d : (2 * i) / 2 ≡ i = omega arith in rw (r, d) at e

    odd_lit : (vals : List Bool) (i : ℕ) → lit_true (at vals) (2 * i + 1) ≡ true → at vals i ≡ false
    odd_lit vals i e = let r : (2 * i + 1) % 2 ≡ 1 = omega arith in let d : (2 * i + 1) / 2 ≡ i = omega arith in true_not (at vals i) (rw (r, d) at e)

    no_ : (b : Bool) → b ≡ true → b ≡ false → ⊥
    no_ b t f = cc

    odd_on : (i : ℕ) → IsAssigned on i → is_true on (2 * i) ≡ false → is_true on (2 * i + 1) ≡ true
    odd_on i h f = elim h [ inl t ↦ absurd (no_ (is_true on (2 * i)) t f) | inr t ↦ t ]

-- the bits of a partial assignment that leaves no clause false or unit, with all inputs assigned, give the root true
pub model_value : (g : Circuit) (on : List Bool) → IsCircuit g → IsProper on → AllQuiet on (all_clauses g) → ((j : ℕ) → j < g.inputs → IsAssigned on j) → value g (bits_to on g.inputs) ≡ true
model_value g on w p q a =
    let long : g.inputs ≡ length (bits_to on g.inputs) = sym (length-bits on g.inputs) in
    let k = knows_all on (bits_to on g.inputs) g.gates p (knows_inputs on g.inputs p a) (subst (λ n. AreEarlier n g.gates) long w.earlier)
    (subst (λ n. AllQuiet on (clauses_from n g.gates)) long (quiet_left on (clauses_from g.inputs g.gates) ((g.root ∷ []) ∷ []) q)) in
    let root : is_true on g.root ≡ true = quiet_true on (g.root ∷ []) g.root p (quiet_right on (clauses_from g.inputs g.gates) ((g.root ∷ []) ∷ []) q).0 (inl refl) (inl refl, tt) in
    let all : length (values_from (bits_to on g.inputs) g.gates) ≡ g.inputs + length g.gates = values_long (bits_to on g.inputs) g.gates ∙ ap (λ n. n + length g.gates) (length-bits on g.inputs) in
    not_true_is (value g (bits_to on g.inputs)) (λ e. p.both g.root root (knows_off on (values_from (bits_to on g.inputs) g.gates) g.root k (omega (arith, all, w.named)) e))
