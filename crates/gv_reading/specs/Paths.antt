-- The path of a name in a folder.
use Rattle.std.specs.Prelude.{ℕ, List, ◌++◌, codes}

abbrev pub within : List ℕ → List ℕ → List ℕ
within dir name = dir ++ (codes "/" ++ name)
