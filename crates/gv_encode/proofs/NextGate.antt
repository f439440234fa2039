-- The next gate of a loop over gates.
use Rattle.std.proofs.Common.{◌≡◌, ℕ, zero, suc, ◌+◌, ◌*◌, ◌<◌, List, [], ◌∷◌, ◌++◌, length, get_or, drop, refl, subst, ◌∙◌, ap, append_assoc, add-one, drop-cons, arith}
use Rattle.std.specs.List.{AllByRecursion}
use Rattle.gv_logic.specs.declared.gates.Op.{Op}
use Rattle.gv_logic.specs.Formulas.{Formula}
use Rattle.gv_logic.specs.Circuits.{Gate, AreEarlier}
use Rattle.gv_logic.specs.Encoding.{op_clauses, clauses_from}

earlier_at : (p n : ℕ) (gs : List Gate) (d : Gate) → n < length gs → AreEarlier p gs → AllByRecursion (λ l. l < 2 * (p + n)) (get_or gs n d).operands
earlier_at p n [] d lt a = absurd (omega (arith, lt))
earlier_at p zero (g ∷ gs) d lt a = let z : p ≡ p + 0 = omega arith in subst (λ k. AllByRecursion (λ l. l < 2 * k) g.operands) z a.0
earlier_at p (suc n) (g ∷ gs) d lt a =
    let z : p + 1 + n ≡ p + suc n = omega arith in subst (λ k. AllByRecursion (λ l. l < 2 * k) (get_or gs n d).operands) z (earlier_at (p + 1) n gs d (omega (arith, lt)) a.1)

pub operands_earlier : (inputs p n : ℕ) (gs : List Gate) (ls : List ℕ) → p ≡ inputs → n < length gs → AreEarlier inputs gs → ((d : Gate) → ls ≡ (get_or gs n d).operands)
    → Gate → AllByRecursion (λ l. l < 2 * (p + n)) ls
operands_earlier inputs p n gs ls is lt a q d = rw (is, q d) (earlier_at inputs n gs d lt a)

same_gate : (op : Op) (operands : List ℕ) (g : Gate) → op ≡ g.op → operands ≡ g.operands → g ≡ record { op = op; operands = operands }
same_gate op operands g p q = rw (p, q) refl

module _ (gs : List Gate) (n : ℕ) (op : Op) (operands : List ℕ) (lt : n < length gs) (p : (d : Gate) → op ≡ (get_or gs n d).op) (q : (d : Gate) → operands ≡ (get_or gs n d).operands) where
  gate_at : drop n gs ≡ record { op = op; operands = operands } ∷ drop (n + 1) gs
  gate_at =
      let d : Gate = record { op = op; operands = operands } in
      let same : get_or gs n d ≡ d = same_gate op operands (get_or gs n d) (p d) (q d) in
      rw add-one (drop-cons gs n d lt ∙ ap (λ (x : Gate). x ∷ drop (suc n) gs) same)

  pub clauses_step : (first : ℕ) (before after : Formula) (v : ℕ) (whole : List (List ℕ)) → before.variables ≡ v → before.clauses ++ clauses_from (first + n) (drop n gs) ≡ whole
      → after ≡ record before { clauses = before.clauses ++ op_clauses (first + n) op operands }
      → record { variables : after.variables ≡ v; clauses : after.clauses ++ clauses_from (first + (n + 1)) (drop (n + 1) gs) ≡ whole }
  clauses_step first before after v whole a b c =
      let next : first + (n + 1) ≡ first + n + 1 = omega arith in
      rw c (record {
        variables = a;
        clauses = append_assoc before.clauses (op_clauses (first + n) op operands) (clauses_from (first + (n + 1)) (drop (n + 1) gs))
            ∙ (rw next (let h : before.clauses ++ clauses_from (first + n) (record { op = op; operands = operands } ∷ drop (n + 1) gs) ≡ whole = rw gate_at at b in h));
      })
