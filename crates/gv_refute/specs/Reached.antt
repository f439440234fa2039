-- Bits that aren't lesser.
use Rattle.std.specs.Prelude.{◌≡◌, ◌⊎◌, ℕ, ◌<◌, Bool, true, false, List, slice_index_or}

-- for each input that is on in the bits, the other bits have it on or some lower one that is off in the bits
abbrev pub Reaches : List Bool → List Bool → Type 0
Reaches bits other =
    (i : ℕ) → slice_index_or bits i false ≡ true
    → (slice_index_or other i false ≡ true) ⊎ ((j : ℕ) × (j < i) × (slice_index_or bits j true ≡ false) × (slice_index_or other j false ≡ true))
