-- The next gate of a loop over gates.
use Rattle.std.proofs.Common.{◌≡◌, ℕ, suc, ◌+◌, ◌<◌, Bool, List, [], ◌∷◌, ◌++◌, length, get_or, drop, refl, ◌∙◌, ap, append_assoc, add-one, drop-cons}
use Rattle.gv_logic.specs.declared.gates.Op.{Op}
use Rattle.gv_logic.specs.Circuits.{Gate, at, op_value, values_from}
use Rattle.gv_logic.specs.Bytes.{gate_bytes, gates_bytes}

same_gate : (op : Op) (operands : List ℕ) (g : Gate) → op ≡ g.op → operands ≡ g.operands → g ≡ record { op = op; operands = operands }
same_gate op operands g p q = rw (p, q) refl

module _ (gs : List Gate) (n : ℕ) (op : Op) (operands : List ℕ) where
  gate_at : n < length gs → ((d : Gate) → op ≡ (get_or gs n d).op) → ((d : Gate) → operands ≡ (get_or gs n d).operands) → drop n gs ≡ record { op = op; operands = operands } ∷ drop (n + 1) gs
  gate_at lt p q =
      let d : Gate = record { op = op; operands = operands } in
      let same : get_or gs n d ≡ d = same_gate op operands (get_or gs n d) (p d) (q d) in
      rw add-one (drop-cons gs n d lt ∙ ap (λ (x : Gate). x ∷ drop (suc n) gs) same)

  pub values_step : (places : List Bool) (b : Bool) → n < length gs → ((d : Gate) → op ≡ (get_or gs n d).op) → ((d : Gate) → operands ≡ (get_or gs n d).operands)
      → b ≡ op_value (at places) op operands → values_from (places ++ b ∷ []) (drop (n + 1) gs) ≡ values_from places (drop n gs)
  values_step places b lt p q e = rw (gate_at lt p q, e) refl

  pub bytes_step : (before after : List ℕ) → n < length gs → ((d : Gate) → op ≡ (get_or gs n d).op) → ((d : Gate) → operands ≡ (get_or gs n d).operands)
      → after ≡ before ++ gate_bytes (record { op = op; operands = operands }) → after ++ gates_bytes (drop (n + 1) gs) ≡ before ++ gates_bytes (drop n gs)
  bytes_step before after lt p q e = rw (gate_at lt p q, e) (append_assoc before (gate_bytes (record { op = op; operands = operands })) (gates_bytes (drop (n + 1) gs)))
