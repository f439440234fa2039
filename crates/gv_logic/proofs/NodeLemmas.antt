-- Gates of which the operands stand apart: one gate more, how many there are, and the n-th.
use Rattle.std.proofs.Common.{◌≡◌, refl, ap, ℕ, suc, zero, ◌+◌, ◌<◌, List, [], ◌∷◌, ◌++◌, length, get_or, arith}
use Rattle.gv_logic.specs.Circuits.{Gate, operand_count}
use Rattle.gv_logic.specs.LitLists.{lit_count}
use Rattle.gv_logic.specs.Nodes.{gates_of}
use Rattle.gv_logic.specs.declared.gates.Op.{Op}

abbrev gate : Op → List ℕ → Gate
gate op operands = record { op = op; operands = operands }

pub gates_more : (ops : List Op) (lists : List (List ℕ)) (op : Op) (operands : List ℕ) → length ops ≡ length lists →
    gates_of (ops ++ op ∷ []) (lists ++ operands ∷ []) ≡ gates_of ops lists ++ gate op operands ∷ []
gates_more [] [] op operands same = refl
gates_more [] (l ∷ lists) op operands same = absurd (omega (arith, same))
gates_more (o ∷ ops) [] op operands same = absurd (omega (arith, same))
gates_more (o ∷ ops) (l ∷ lists) op operands same = ap (λ gs. gate o l ∷ gs) (gates_more ops lists op operands (omega (arith, same)))

pub length_gates : (ops : List Op) (lists : List (List ℕ)) → length ops ≡ length lists → length (gates_of ops lists) ≡ length lists
length_gates [] [] same = refl
length_gates [] (l ∷ lists) same = absurd (omega (arith, same))
length_gates (o ∷ ops) [] same = refl
length_gates (o ∷ ops) (l ∷ lists) same = ap suc (length_gates ops lists (omega (arith, same)))

pub count_gates : (ops : List Op) (lists : List (List ℕ)) → length ops ≡ length lists → operand_count (gates_of ops lists) ≡ lit_count lists
count_gates [] [] same = refl
count_gates [] (l ∷ lists) same = absurd (omega (arith, same))
count_gates (o ∷ ops) [] same = refl
count_gates (o ∷ ops) (l ∷ lists) same = ap (λ n. length l + n) (count_gates ops lists (omega (arith, same)))

pub nth_op : (ops : List Op) (lists : List (List ℕ)) (n : ℕ) (none : Op) (other : Gate) → length ops ≡ length lists → n < length ops →
    get_or ops n none ≡ (get_or (gates_of ops lists) n other).op
nth_op [] lists n none other same under = absurd (omega (arith, under))
nth_op (o ∷ ops) [] n none other same under = absurd (omega (arith, same))
nth_op (o ∷ ops) (l ∷ lists) zero none other same under = refl
nth_op (o ∷ ops) (l ∷ lists) (suc n) none other same under = nth_op ops lists n none other (omega (arith, same)) (omega (arith, under))

pub nth_operands : (ops : List Op) (lists : List (List ℕ)) (n : ℕ) (none : List ℕ) (other : Gate) → length ops ≡ length lists → n < length ops →
    get_or lists n none ≡ (get_or (gates_of ops lists) n other).operands
nth_operands [] lists n none other same under = absurd (omega (arith, under))
nth_operands (o ∷ ops) [] n none other same under = absurd (omega (arith, same))
nth_operands (o ∷ ops) (l ∷ lists) zero none other same under = refl
nth_operands (o ∷ ops) (l ∷ lists) (suc n) none other same under = nth_operands ops lists n none other (omega (arith, same)) (omega (arith, under))
