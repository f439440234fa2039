-- The last byte of a text, by its place, and the front of a text, up to a byte.
use Rattle.std.proofs.Common.{◌≡◌, ℕ, suc, ◌-◌, ◌<◌, ◌≤◌, List, [], ◌∷◌, length, get_or, refl, arith}
use Rattle.std.proofs.lemmas.List.Folds.{length-prefix_len}
use Rattle.std.proofs.lemmas.List.Sums.{prefix_len-le-length}
use Rattle.std.specs.List.{position_or_len}
use Rattle.std.specs.Prelude.{◌==◌, not}
use Rattle.gv_base.specs.Cut.{ends_in, up_to_first}

pub last_is : (byte : ℕ) (bytes : List ℕ) → 0 < length bytes → (get_or bytes (length bytes - 1) 0 == byte) ≡ ends_in byte bytes
last_is byte [] h = absurd (omega arith)
last_is byte (b ∷ []) h = refl
last_is byte (b ∷ c ∷ bs) h =
    let e : length (b ∷ c ∷ bs) - 1 ≡ suc (length (c ∷ bs) - 1) = omega arith in
    rw e (last_is byte (c ∷ bs) (omega arith))

-- what the front is long
pub front_length : (byte : ℕ) (bytes : List ℕ) → length (up_to_first byte bytes) ≡ position_or_len (λ b. b == byte) bytes
front_length byte bytes = length-prefix_len (λ b. not (b == byte)) bytes

pub front_within : (byte : ℕ) (bytes : List ℕ) → length (up_to_first byte bytes) ≤ length bytes
front_within byte bytes = omega (arith, front_length byte bytes, prefix_len-le-length (λ b. not (b == byte)) bytes)
