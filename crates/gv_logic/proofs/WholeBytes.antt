-- The bytes of a circuit tell the circuit.
use Rattle.std.proofs.Common.{◌≡◌, ℕ, ◌+◌, ◌*◌, ◌<◌, ◌≤◌, ◌^◌, List, [], ◌∷◌, ◌++◌, length, refl, sym, subst, ◌∙◌, ap, append-nil, length-append, arith}
use Rattle.gv_logic.specs.Circuits.{Gate, Draft, Circuit, AreEarlier, operand_count, IsDraft, IsCircuit}
use Rattle.gv_logic.specs.Bytes.{number_bytes, gates_bytes, circuit_bytes}
use Rattle.gv_logic.specs.Laws.{CircuitLaw}
use Rattle.gv_logic.proofs.Cancel.{number_long, number_same}
use Rattle.gv_logic.proofs.ManyGates.{Left, left, small}

circuit_is : (i j : ℕ) (gs hs : List Gate) (r t : ℕ) → i ≡ j → gs ≡ hs → r ≡ t → let a : Circuit = record { inputs = i; gates = gs; root = r } in a ≡ record { inputs = j; gates = hs; root = t }
circuit_is i j gs hs r t p q s = rw (p, q, s) refl

-- no circuit has so few bytes
pub no_inputs : (bytes : List ℕ) → length bytes < 4 → (g : Circuit) → circuit_bytes g ≡ bytes → ⊥
no_inputs bytes s g e =
    absurd (omega (arith, ap length e, number_long g.inputs (number_bytes (length g.gates) ++ (gates_bytes g.gates ++ number_bytes g.root))))

module _ (bytes rest : List ℕ) (n : ℕ) (fits : n < 2 ^ 32) (front : bytes ≡ number_bytes n ++ rest) (g : Circuit) (w : IsCircuit g) (e : circuit_bytes g ≡ bytes) where
  pub inputs_are : (g.inputs ≡ n) × (number_bytes (length g.gates) ++ (gates_bytes g.gates ++ number_bytes g.root) ≡ rest)
  inputs_are = number_same g.inputs n _ rest (omega (arith, w.places)) fits (e ∙ front)

  pub no_count : length rest < 4 → ⊥
  no_count s = absurd (omega (arith, ap length inputs_are.1, number_long (length g.gates) (gates_bytes g.gates ++ number_bytes g.root)))

  pub many_inputs : 2 ^ 30 < n → ⊥
  many_inputs l = absurd (omega (arith, inputs_are.0, w.places))

  module _ (tail : List ℕ) (m : ℕ) (fits_too : m < 2 ^ 32) (next : rest ≡ number_bytes m ++ tail) where
    pub count_is : (length g.gates ≡ m) × (gates_bytes g.gates ++ number_bytes g.root ≡ tail)
    count_is = number_same (length g.gates) m _ tail (omega (arith, w.places)) fits_too (inputs_are.1 ∙ next)

    pub many_gates : 2 ^ 30 < n + m → ⊥
    many_gates l = absurd (omega (arith, inputs_are.0, count_is.0, w.places))

    module _ (d : Draft) (behind : List ℕ) (v : IsDraft d) (same : d.inputs ≡ n) (many : length d.gates ≡ m) (drafted : tail ≡ gates_bytes d.gates ++ behind) where
      -- all gates were read
      pub gates_are : (g.gates ≡ d.gates) × (behind ≡ number_bytes g.root ++ [])
      gates_are =
          let all : Left d.gates g.gates behind (number_bytes g.root) = left d.gates g.gates behind (number_bytes g.root) (small d.inputs d.gates v.earlier v.places v.operands)
          (small g.inputs g.gates w.earlier w.places w.operands) (omega (arith, many, count_is.0)) (sym drafted ∙ sym count_is.1) in
          by all.more all.whole all.bytes
        where
          by : (more : List Gate) → g.gates ≡ d.gates ++ more → behind ≡ gates_bytes more ++ number_bytes g.root → (g.gates ≡ d.gates) × (behind ≡ number_bytes g.root ++ [])
          by [] a b = (a ∙ append-nil d.gates, b ∙ sym (append-nil (number_bytes g.root)))
          by (x ∷ xs) a b = absurd (omega (arith, ap length a, length-append d.gates (x ∷ xs), many, count_is.0))

      pub no_root : length behind < 4 → ⊥
      no_root s = absurd (omega (arith, ap length gates_are.1, number_long g.root []))

      module _ (root : ℕ) (last : List ℕ) (fits_last : root < 2 ^ 32) (end_ : behind ≡ number_bytes root ++ last) where
        pub root_is : (g.root ≡ root) × ([] ≡ last)
        root_is = number_same g.root root [] last (omega (arith, w.named, w.places)) fits_last (sym gates_are.1 ∙ end_)

        pub unnamed : 2 * (n + m) ≤ root → ⊥
        unnamed l = absurd (omega (arith, root_is.0, w.named, inputs_are.0, count_is.0))

        pub more_bytes : 0 < length last → ⊥
        more_bytes l = absurd (omega (arith, ap length root_is.1))

        pub is_read : g ≡ record { inputs = d.inputs; gates = d.gates; root = root }
        is_read = circuit_is g.inputs d.inputs g.gates d.gates g.root root (inputs_are.0 ∙ sym same) gates_are.0 root_is.0

-- what was read has these bytes
pub has_bytes : (bytes r1 r2 r3 last : List ℕ) (n m root : ℕ) (d : Draft) → bytes ≡ number_bytes n ++ r1 → r1 ≡ number_bytes m ++ r2 → d.inputs ≡ n → length d.gates ≡ m
    → r2 ≡ gates_bytes d.gates ++ r3 → r3 ≡ number_bytes root ++ last → last ≡ [] → circuit_bytes (record { inputs = d.inputs; gates = d.gates; root = root }) ≡ bytes
has_bytes bytes r1 r2 r3 last n m root d a b i c f h z =
    sym (a ∙ (rw (b, f, h, z, i, c, append-nil (number_bytes root)) refl))

-- no gates come next, but those of the circuit would
pub none_at : (n m : ℕ) (tail : List ℕ) (g : Circuit) → IsCircuit g → g.inputs ≡ n → length g.gates ≡ m → gates_bytes g.gates ++ number_bytes g.root ≡ tail
    → ((gs : List Gate) (rest : List ℕ) → length gs ≡ m → AreEarlier n gs → operand_count gs ≤ 2 ^ 30 → tail ≡ gates_bytes gs ++ rest → ⊥) → ⊥
none_at n m tail g w i c t none = none g.gates (number_bytes g.root) c (subst (λ k. AreEarlier k g.gates) i w.earlier) w.operands (sym t)

-- bytes are those of one circuit at most
pub circuit_same : CircuitLaw
circuit_same g h w v e =
    let d : Draft = record { inputs = h.inputs; gates = h.gates } in
    let drafted : IsDraft d = record { earlier = v.earlier; places = v.places; operands = v.operands } in
    is_read (circuit_bytes h) _ h.inputs (omega (arith, v.places)) refl g w e _ (length h.gates) (omega (arith, v.places)) refl
    d _ drafted refl refl refl h.root [] (omega (arith, v.named, v.places)) (sym (append-nil (number_bytes h.root)))
