-- Which literals are marked as true: a word of the trail's own fields.
use Rattle.std.specs.Prelude.{◌≡◌, ◌<◌, Bool, true, false, List, [], ◌∷◌, length, slice_set}
use Rattle.gv_logic.specs.Literals.{opposite}
use Rattle.gv_logic.specs.Partial.{is_true}
use Rattle.gv_trail.specs.Entries.{Entry}

-- each literal is in range, and its variable wasn't assigned before
abbrev pub AreFresh : List Bool → List Entry → Type 0
AreFresh on [] = Unit {0}
AreFresh on (e ∷ es) = (e.lit < length on) × (is_true on e.lit ≡ false) × (is_true on (opposite e.lit) ≡ false) × AreFresh (slice_set on e.lit true) es
