-- The order of bits, where off stands before on, and the least bits with a property.
use Rattle.std.specs.Prelude.{◌≡◌, ◌≢◌, ◌⊎◌, ℕ, Bool, true, false, List, [], ◌∷◌, length}

-- off at the first place where they differ
abbrev pub Lesser : List Bool → List Bool → Type 0
Lesser [] bs = ⊥
Lesser (a ∷ as_) [] = ⊥
Lesser (a ∷ as_) (b ∷ bs) = ((a ≡ false) × (b ≡ true)) ⊎ ((a ≡ b) × Lesser as_ bs)

-- of all lists of n bits with the property, this one is lesser than every other
pub record IsLeast (test : List Bool → Bool) (n : ℕ) (bits : List Bool) : Type 0 where
  pub size : length bits ≡ n
  pub has : test bits ≡ true
  pub lesser : (other : List Bool) → length other ≡ n → test other ≡ true → other ≢ bits → Lesser bits other

-- no list of n bits has the property
abbrev pub HasNone : (List Bool → Bool) → ℕ → Type 0
HasNone test n = (bits : List Bool) → length bits ≡ n → test bits ≡ true → ⊥
