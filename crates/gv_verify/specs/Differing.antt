-- The first byte at which two texts differ; where one begins the other, the shorter one's length.
use Rattle.std.specs.Prelude.{◌≡◌, ℕ, List, [], ◌∷◌, ◌++◌, length}

-- they begin with different bytes, or one of them is empty and the other isn't
abbrev pub AreApart : List ℕ → List ℕ → Type 0
AreApart [] [] = ⊥
AreApart [] (y ∷ ys) = Unit {0}
AreApart (x ∷ xs) [] = Unit {0}
AreApart (x ∷ xs) (y ∷ ys) = x ≡ y → ⊥

pub record DifferAt (one two : List ℕ) (n : ℕ) : Type 0 where
  pub front : List ℕ
  pub one_rest : List ℕ
  pub two_rest : List ℕ
  pub one_is : one ≡ front ++ one_rest
  pub two_is : two ≡ front ++ two_rest
  pub place : n ≡ length front
  pub apart : AreApart one_rest two_rest
