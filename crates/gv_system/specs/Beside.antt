-- Names of the new files that stand beside a file before they take its place.
use Rattle.std.specs.Prelude.{◌≡◌, ◌++◌, ◌∷◌, ℕ, List}

-- a file's name, `.new` and what is behind it
abbrev pub IsNewOf : List ℕ → List ℕ → Type 0
IsNewOf file name = (number : List ℕ) × (name ≡ file ++ (46 ∷ 110 ∷ 101 ∷ 119 ∷ number))
