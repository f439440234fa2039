-- One more gate.
use Rattle.std.proofs.Common.{◌≡◌, ℕ, ◌+◌, ◌*◌, ◌<◌, ◌≤◌, ◌^◌, List, [], ◌∷◌, ◌++◌, length, refl, sym, subst, length-append, arith}
use Rattle.std.specs.List.{AllByRecursion}
use Rattle.gv_logic.specs.Circuits.{Gate, Draft, IsDraft, AreEarlier, operand_count}

pub earlier_more : (p q : ℕ) (gs : List Gate) (g : Gate) → q ≡ p + length gs → AreEarlier p gs → AllByRecursion (λ l. l < 2 * q) g.operands → AreEarlier p (gs ++ g ∷ [])
earlier_more p q [] g e a o = (subst (λ n. AllByRecursion (λ l. l < 2 * n) g.operands) (let z : q ≡ p = omega arith in z) o, tt)
earlier_more p q (x ∷ xs) g e a o = (a.0, earlier_more (p + 1) q xs g (omega arith) a.1 o)

pub count_append : (as_ bs : List Gate) → operand_count (as_ ++ bs) ≡ operand_count as_ + operand_count bs
count_append [] bs = omega arith
count_append (x ∷ xs) bs = omega (arith, count_append xs bs)

pub draft_more : (n : ℕ) (gs more : List Gate) (g : Gate) → more ≡ gs ++ g ∷ [] → IsDraft (record { inputs = n; gates = gs })
    → AllByRecursion (λ l. l < 2 * (n + length gs)) g.operands → n + length gs < 2 ^ 30 → operand_count gs + length g.operands ≤ 2 ^ 30
    → IsDraft (record { inputs = n; gates = more })
draft_more n gs more g e d o p c = rw e (record {
  earlier = earlier_more n (n + length gs) gs g refl d.earlier o;
  places = omega (arith, length-append gs (g ∷ []));
  operands = omega (arith, count_append gs (g ∷ []));
})

-- the same for a draft that is told by another name
pub draft_grows : (d : Draft) (n : ℕ) (gs more : List Gate) (g : Gate) → record { inputs = n; gates = gs } ≡ d → more ≡ gs ++ g ∷ []
    → IsDraft (record { inputs = n; gates = gs }) → AllByRecursion (λ l. l < 2 * (d.inputs + length d.gates)) g.operands
    → d.inputs + length d.gates < 2 ^ 30 → operand_count d.gates + length g.operands ≤ 2 ^ 30 → IsDraft (record { inputs = n; gates = more })
draft_grows d n gs more g is e w o p c =
    let Given : Draft → Type 0 = λ x. AllByRecursion (λ l. l < 2 * (x.inputs + length x.gates)) g.operands × (x.inputs + length x.gates < 2 ^ 30) × (operand_count x.gates + length g.operands ≤ 2 ^ 30) in
    let h : Given (record { inputs = n; gates = gs }) = subst Given (sym is) (o, p, c) in
    draft_more n gs more g e w h.0 h.1 h.2
