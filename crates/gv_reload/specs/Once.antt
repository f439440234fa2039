-- Each path that is counted and let go is read once in a load.
use Rattle.std.specs.Prelude.{◌≡◌, ℕ, false, List, [], ◌∷◌, Option, Some, None, filter_map}
use Rattle.gv_base.specs.Order.{has_text}
use Rattle.gv_reading.specs.Look.{Look}
use Rattle.gv_load.specs.Order.{load_steps}
use Rattle.gv_reading.specs.Reading.{Step, read, list, need, bound, once}

abbrev pub once_path : Step → Option (List ℕ)
once_path (read path) = None
once_path (list path) = None
once_path (need path) = None
once_path (bound place most passes) = None
once_path (once path) = Some path

-- in the order of the steps
abbrev pub once_paths : List Step → List (List ℕ)
once_paths steps = filter_map once_path steps

-- no text stands twice
abbrev pub AreDistinct : List (List ℕ) → Type 0
AreDistinct [] = Unit {0}
AreDistinct (x ∷ xs) = (has_text xs x ≡ false) × AreDistinct xs

abbrev pub OnceLaw : Type 0
OnceLaw = (look : Look) → AreDistinct (once_paths (load_steps look))
