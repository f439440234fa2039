-- Bytes that begin with gates tell the gates.
use Rattle.std.proofs.Common.{◌≡◌, ℕ, ◌<◌, ◌≤◌, ◌^◌, List, ◌∷◌, ◌++◌, length, drop, sym, ◌∙◌, ap, append_assoc, arith}
use Rattle.std.specs.List.{AllByRecursion}
use Rattle.gv_logic.specs.declared.gates.Op.{Op}
use Rattle.gv_logic.specs.Circuits.{Gate}
use Rattle.gv_logic.specs.Bytes.{number_bytes, numbers_bytes, op_byte, gate_bytes}
use Rattle.gv_logic.specs.Cursor.{IsFit}
use Rattle.gv_logic.proofs.Cancel.{number_long, number_same}

pub gate_tail : (op : Op) (after : List ℕ) (g : Gate) (rest : List ℕ) → op_byte op ∷ after ≡ gate_bytes g ++ rest
    → after ≡ number_bytes (length g.operands) ++ (numbers_bytes g.operands ++ rest)
gate_tail op after g rest e = ap (drop 1) e ∙ append_assoc (number_bytes (length g.operands)) (numbers_bytes g.operands) rest

module _ (before after : List ℕ) (op : Op) (bytes : before ≡ op_byte op ∷ after) where
  pub no_number : length after < 4 → (g : Gate) (rest : List ℕ) → before ≡ gate_bytes g ++ rest → ⊥
  no_number s g rest e =
      let t = gate_tail op after g rest (sym bytes ∙ e) in
      absurd (omega (arith, ap length t, number_long (length g.operands) (numbers_bytes g.operands ++ rest)))

  -- the number of operands that stands there is that of the gate
  pub counted : (count bound room : ℕ) (tail : List ℕ) → count < 2 ^ 32 → room < 2 ^ 32 → after ≡ number_bytes count ++ tail
      → (g : Gate) (rest : List ℕ) → IsFit bound room g → before ≡ gate_bytes g ++ rest → (length g.operands ≡ count) × (tail ≡ numbers_bytes g.operands ++ rest)
  counted count bound room tail f r a g rest fit e =
      let t = gate_tail op after g rest (sym bytes ∙ e) in
      let few : length g.operands < 2 ^ 32 = omega (arith, fit.few) in
      let s = number_same (length g.operands) count (numbers_bytes g.operands ++ rest) tail few f (sym t ∙ a) in (s.0, sym s.1)

  pub no_room : (count bound room : ℕ) (tail : List ℕ) → count < 2 ^ 32 → room < count → after ≡ number_bytes count ++ tail
      → (g : Gate) (rest : List ℕ) → IsFit bound room g → before ≡ gate_bytes g ++ rest → ⊥
  no_room count bound room tail f l a g rest fit e =
      let s = counted count bound room tail f (omega (arith, f, l)) a g rest fit e in absurd (omega (arith, s.0, fit.few))

  pub no_operands : (count bound room : ℕ) (tail : List ℕ) → count < 2 ^ 32 → room < 2 ^ 32 → after ≡ number_bytes count ++ tail
      → ((ns rest : List ℕ) → length ns ≡ count → AllByRecursion (λ n. n < bound) ns → tail ≡ numbers_bytes ns ++ rest → ⊥)
      → (g : Gate) (rest : List ℕ) → IsFit bound room g → before ≡ gate_bytes g ++ rest → ⊥
  no_operands count bound room tail f r a none g rest fit e =
      let s = counted count bound room tail f r a g rest fit e in none g.operands rest s.0 fit.below s.1

  pub gate_read : (count bound room : ℕ) (ns tail rest : List ℕ) → count ≤ room → after ≡ number_bytes count ++ tail
      → length ns ≡ count → AllByRecursion (λ n. n < bound) ns → tail ≡ numbers_bytes ns ++ rest
      → IsFit bound room (record { op = op; operands = ns }) × (before ≡ gate_bytes (record { op = op; operands = ns }) ++ rest)
  gate_read count bound room ns tail rest l a n b t = (
    record { below = b; few = omega (arith, l, n) },
    bytes ∙ ap (λ bs. op_byte op ∷ bs) (a ∙ (rw (t, n) (sym (append_assoc (number_bytes count) (numbers_bytes ns) rest)))),
  )
