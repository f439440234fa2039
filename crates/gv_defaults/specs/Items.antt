-- What private contracts say of a file that is read item by item.
use Rattle.std.specs.Prelude.{◌≡◌, ℕ, ◌<◌, ◌≤◌, zero, List, [], Some, length, take, drop, fold}
use Rattle.gv_defaults.specs.declared.items.Assigned.{Assigned}
use Rattle.gv_defaults.specs.declared.items.Item.{Item}
use Rattle.gv_defaults.specs.declared.items.Item.TheVariants.{Gap, Assignment as Assigns, Fault}
use Rattle.gv_defaults.specs.Assignments.{Assignment, File, size, assignment_at, with_first, read_on, line_after}

abbrev pub lines_after : ℕ → List ℕ → ℕ
lines_after line bytes = fold line_after line bytes

abbrev pub seen : Assigned → Assignment
seen a = record { name = a.name.now; text = a.text.now }

-- the assignment at the front, which lies within the bytes
abbrev pub IsAssigned : List ℕ → Assigned → Type 0
IsAssigned bytes a = (assignment_at bytes ≡ Some (seen a)) × (size (seen a) ≤ length bytes)

-- what is read from a line on is what is read behind the first n bytes, whose line feeds count
pub record PassesOver (bytes : List ℕ) (n : ℕ) (before : File → File) : Type 0 where
  pub reads : (line : ℕ) → read_on line zero bytes ≡ before (read_on (lines_after line (take n bytes)) zero (drop n bytes))
  pub some : 0 < n
  pub within : n ≤ length bytes

-- what the item at the front says of all that is read
abbrev pub IsItem : List ℕ → Item → Type 0
IsItem bytes (Gap len) = PassesOver bytes len (λ file. file)
IsItem bytes (Assigns a) = PassesOver bytes (size (seen a)) (with_first (seen a))
IsItem bytes Fault = (line : ℕ) → read_on line zero bytes ≡ record { assignments = []; bad = Some line }
