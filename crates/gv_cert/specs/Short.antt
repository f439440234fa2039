-- Short numbers by their bytes, as they are told in words.
use Rattle.std.specs.Prelude.{◌≡◌, ◌↔◌, ℕ, ◌+◌, ◌*◌, ◌%◌, ◌<◌, ◌≤◌, ◌^◌, List, [], ◌∷◌, length}
use Rattle.gv_cert.specs.Numbers.{short_bytes}

-- seven bits of each byte, the least significant first
abbrev pub short_value : List ℕ → ℕ
short_value [] = 0
short_value (b ∷ bs) = b % 128 + 128 * short_value bs

-- each byte but the last is 128 or more; the last is below 128, and isn't 0 unless it is the only one
abbrev pub IsShortForm : List ℕ → Type 0
IsShortForm [] = ⊥
IsShortForm (b ∷ []) = b < 128
IsShortForm (b ∷ c ∷ bs) = (128 ≤ b) × (b < 256) × ((c ∷ bs) ≡ 0 ∷ [] → ⊥) × IsShortForm (c ∷ bs)

-- bytes are the short number of n
pub record IsShortOf (n : ℕ) (bytes : List ℕ) : Type 0 where
  pub form : IsShortForm bytes
  pub few : length bytes ≤ 5
  pub value : short_value bytes ≡ n

-- of each number that five bytes have room for there is one short number
abbrev pub ShortLaw : Type 0
ShortLaw = (n : ℕ) (bytes : List ℕ) → n < 2 ^ 35 → ((short_bytes n ≡ bytes) ↔ IsShortOf n bytes)
