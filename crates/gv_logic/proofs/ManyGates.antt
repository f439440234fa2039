-- Bytes that begin with a list of gates tell the gates.
use Rattle.std.proofs.Common.{◌≡◌, ℕ, ◌+◌, ◌-◌, ◌*◌, ◌<◌, ◌≤◌, ◌^◌, List, [], ◌∷◌, ◌++◌, length, get_or, drop, refl, sym, subst, ◌∙◌, ap, append_assoc, append-nil, length-append, arith}
use Rattle.std.specs.List.{AllByRecursion}
use Rattle.gv_logic.specs.declared.gates.Op.{Op}
use Rattle.gv_logic.specs.declared.gates.Op.TheVariants.{And, Or}
use Rattle.gv_logic.specs.Circuits.{Gate, AreEarlier, operand_count}
use Rattle.gv_logic.specs.Bytes.{number_bytes, numbers_bytes, op_byte, gate_bytes, gates_bytes}
use Rattle.gv_logic.specs.Cursor.{IsFit}
use Rattle.gv_logic.proofs.Cancel.{number_same, numbers_same, cons_same, all_weak}
use Rattle.gv_logic.proofs.Drafts.{count_append, earlier_more}

-- all numbers of the gates have 32 bits
pub record IsSmall (g : Gate) : Type 0 where
  pub operands : AllByRecursion (λ n. n < 2 ^ 32) g.operands
  pub few : length g.operands < 2 ^ 32

abbrev pub AreSmall : List Gate → Type 0
AreSmall gs = AllByRecursion IsSmall gs

pub small : (p : ℕ) (gs : List Gate) → AreEarlier p gs → p + length gs ≤ 2 ^ 30 → operand_count gs ≤ 2 ^ 30 → AreSmall gs
small p [] a b c = tt
small p (g ∷ gs) a b c =
    let l : 2 * p ≤ 2 ^ 32 = omega arith in
    (record { operands = all_weak (2 * p) (2 ^ 32) g.operands l a.0; few = omega arith }, small (p + 1) gs a.1 (omega arith) (omega arith))

op_same : (a b : Op) → op_byte a ≡ op_byte b → a ≡ b
op_same And And e = refl
op_same And Or e = absurd (omega (arith, e))
op_same Or And e = absurd (omega (arith, e))
op_same Or Or e = refl

gate_is : (x y : Gate) → x.op ≡ y.op → x.operands ≡ y.operands → x ≡ y
gate_is x y p q =
    let d : Gate = record { op = x.op; operands = x.operands } in
    let a : d ≡ record { op = y.op; operands = x.operands } = ap (λ o. let r : Gate = record { op = o; operands = x.operands } in r) p in
    a ∙ ap (λ ls. let r : Gate = record { op = y.op; operands = ls } in r) q

pub gate_same : (x y : Gate) (xs ys : List ℕ) → IsSmall x → IsSmall y → gate_bytes x ++ xs ≡ gate_bytes y ++ ys → (x ≡ y) × (xs ≡ ys)
gate_same x y xs ys p q e =
    let o : op_byte x.op ≡ op_byte y.op = ap (λ bs. get_or bs 0 0) e in
    let t : number_bytes (length x.operands) ++ numbers_bytes x.operands ++ xs ≡ number_bytes (length y.operands) ++ numbers_bytes y.operands ++ ys = ap (drop 1) e in
    let n = number_same (length x.operands) (length y.operands) (numbers_bytes x.operands ++ xs) (numbers_bytes y.operands ++ ys) p.few q.few
    (sym (append_assoc (number_bytes (length x.operands)) (numbers_bytes x.operands) xs) ∙ t ∙ append_assoc (number_bytes (length y.operands)) (numbers_bytes y.operands) ys) in
    let l = numbers_same x.operands y.operands xs ys p.operands q.operands n.0 n.1 in
    (gate_is x y (op_same x.op y.op o) l.0, l.1)

-- what is left of the gates, behind those that were read
pub record Left (done gs : List Gate) (rest after : List ℕ) : Type 0 where
  pub more : List Gate
  pub whole : gs ≡ done ++ more
  pub bytes : rest ≡ gates_bytes more ++ after

pub left : (done gs : List Gate) (rest after : List ℕ) → AreSmall done → AreSmall gs → length done ≤ length gs
    → gates_bytes done ++ rest ≡ gates_bytes gs ++ after → Left done gs rest after
left [] gs rest after p q l e = record { more = gs; whole = refl; bytes = e }
left (d ∷ ds) [] rest after p q l e = absurd (omega arith)
left (d ∷ ds) (g ∷ gs) rest after p q l e =
    let s = gate_same d g (gates_bytes ds ++ rest) (gates_bytes gs ++ after) p.0 q.0
    (sym (append_assoc (gate_bytes d) (gates_bytes ds) rest) ∙ e ∙ append_assoc (gate_bytes g) (gates_bytes gs) after) in
    let m = left ds gs rest after p.1 q.1 (omega arith) s.1 in
    record { more = m.more; whole = cons_same g d gs (ds ++ m.more) (sym s.0) m.whole; bytes = m.bytes }

pub gates_append : (as_ bs : List Gate) → gates_bytes (as_ ++ bs) ≡ gates_bytes as_ ++ gates_bytes bs
gates_append [] bs = refl
gates_append (a ∷ as_) bs = ap (λ ns. gate_bytes a ++ ns) (gates_append as_ bs) ∙ sym (append_assoc (gate_bytes a) (gates_bytes as_) (gates_bytes bs))

earlier_at : (p : ℕ) (done more : List Gate) (g : Gate) → AreEarlier p (done ++ g ∷ more) → AllByRecursion (λ l. l < 2 * (p + length done)) g.operands
earlier_at p [] more g a = subst (λ n. AllByRecursion (λ l. l < 2 * n) g.operands) (let z : p ≡ p + 0 = omega arith in z) a.0
earlier_at p (d ∷ ds) more g a = subst (λ n. AllByRecursion (λ l. l < 2 * n) g.operands) (let z : p + 1 + length ds ≡ p + length (d ∷ ds) = omega arith in z) (earlier_at (p + 1) ds more g a.1)

module _ (ins count n room : ℕ) (before : List ℕ) (done : List Gate) (rest : List ℕ) (fits : ins + count ≤ 2 ^ 30) (short : n < count) (counted : length done ≡ n)
    (earlier : AreEarlier ins done) (left_room : operand_count done + room ≡ 2 ^ 30) (bytes : before ≡ gates_bytes done ++ rest) where
  -- no gates where the next gate isn't there
  pub none_next : ((g : Gate) (tail : List ℕ) → IsFit (2 * (ins + n)) room g → rest ≡ gate_bytes g ++ tail → ⊥)
      → (gs : List Gate) (after : List ℕ) → length gs ≡ count → AreEarlier ins gs → operand_count gs ≤ 2 ^ 30 → before ≡ gates_bytes gs ++ after → ⊥
  none_next no_ gs after l a o e =
      let m = left done gs rest after (small ins done earlier (omega arith) (omega arith)) (small ins gs a (omega arith) o) (omega arith) (sym bytes ∙ e) in
      by m.more m.whole m.bytes
    where
      by : (more : List Gate) → gs ≡ done ++ more → rest ≡ gates_bytes more ++ after → ⊥
      by [] w b = absurd (omega (arith, length-append done [], ap length w))
      by (g ∷ more) w b =
          let here = earlier_at ins done more g (subst (AreEarlier ins) w a) in
          let many : operand_count gs ≡ operand_count done + operand_count (g ∷ more) = ap operand_count w ∙ count_append done (g ∷ more) in
          no_ g (gates_bytes more ++ after) (record { below = subst (λ k. AllByRecursion (λ l. l < 2 * (ins + k)) g.operands) counted here; few = omega (arith, many, left_room, o) })
          (b ∙ append_assoc (gate_bytes g) (gates_bytes more) after)

  pub gates_more : (more : List Gate) (i k : ℕ) (g : Gate) (tail : List ℕ) → i ≡ ins → k ≡ length g.operands → more ≡ done ++ g ∷ [] → IsFit (2 * (ins + n)) room g → rest ≡ gate_bytes g ++ tail
      → record { inputs : i ≡ ins; count : length more ≡ n + 1; earlier : AreEarlier ins more; room : operand_count more + (room - k) ≡ 2 ^ 30; bytes : before ≡ gates_bytes more ++ tail }
  gates_more more i k g tail is h e fit r = rw e (record {
    inputs = is;
    count = omega (arith, length-append done (g ∷ []), counted);
    earlier = earlier_more ins (ins + n) done g (omega (arith, counted)) earlier fit.below;
    room = omega (arith, count_append done (g ∷ []), left_room, fit.few, h);
    bytes = bytes ∙ ap (λ bs. gates_bytes done ++ bs) r ∙ sym (append_assoc (gates_bytes done) (gate_bytes g) tail)
        ∙ ap (λ bs. bs ++ tail) (ap (λ bs. gates_bytes done ++ bs) (sym (append-nil (gate_bytes g))) ∙ sym (gates_append done (g ∷ [])));
  })

pub named_same : (inputs n i : ℕ) (gs : List Gate) (ls : List ℕ) → i ≡ inputs → length gs ≡ n → AllByRecursion (λ l. l < 2 * (inputs + n)) ls → AllByRecursion (λ l. l < 2 * (i + length gs)) ls
named_same inputs n i gs ls p q a = rw (p, q) a
