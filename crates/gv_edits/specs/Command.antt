-- The commands of the script of a session (a format of this project).
use Rattle.std.specs.Prelude.{◌≡◌, ◌≤◌, ℕ, ◌==◌, nat_le, true, List, [], ◌∷◌, Bool, ◌&&◌, if◌then◌else◌, length, take, drop, codes, Option, Some, None}
use Rattle.std.specs.Option.{option_map, option_and_then}
use Rattle.std.specs.Str.{bytes_eq}
use Rattle.gv_base.specs.Paths.{is_path}
use Rattle.gv_edits.specs.declared.begun.Begun.{Begun}
use Rattle.gv_edits.specs.declared.begun.Begun.TheVariants as begun
use Rattle.gv_edits.specs.declared.command.Command.{Command}
use Rattle.gv_edits.specs.declared.command.Command.TheVariants.{Put, Cut, Report, End}
use Rattle.gv_edits.specs.Line.{first_line, words_of_line}
use Rattle.gv_edits.specs.Length.{length_of}

-- a path of at most 4,096 bytes
abbrev pub is_edit_path : List ℕ → Bool
is_edit_path path = is_path path && nat_le (length path) 4096

-- the command that these words are, but for the bytes of a put: `report`, `end`, `cut PATH`, `put PATH LENGTH`
abbrev pub begun_by : List (List ℕ) → Option Begun
begun_by [] = None
begun_by (name ∷ []) =
    if bytes_eq name (codes "report") then Some begun.Report else
    (if bytes_eq name (codes "end") then Some begun.End else None)
begun_by (name ∷ (path ∷ [])) =
    if bytes_eq name (codes "cut") && is_edit_path path then Some (begun.Cut path) else None
begun_by (name ∷ (path ∷ (size ∷ []))) =
    if bytes_eq name (codes "put") && is_edit_path path then option_map (begun.Put path) (length_of size) else None
begun_by (name ∷ (path ∷ (size ∷ (more ∷ words)))) = None

-- these bytes, and what is behind the line feed that follows
abbrev pub before_feed : List ℕ → List ℕ → Option (List ℕ × List ℕ)
before_feed content [] = None
before_feed content (b ∷ rest) = if b == 10 then Some (content, rest) else None

-- the first so many bytes, and what is behind the line feed that follows them
abbrev pub first_content : ℕ → List ℕ → Option (List ℕ × List ℕ)
first_content size bytes = before_feed (take size bytes) (drop size bytes)

-- the whole command, and the bytes behind it
abbrev pub completed : Begun → List ℕ → Option (Command × List ℕ)
completed (begun.Put path size) bytes = option_map (λ r. (Put path r.0, r.1)) (first_content size bytes)
completed (begun.Cut path) bytes = Some (Cut path, bytes)
completed begun.Report bytes = Some (Report, bytes)
completed begun.End bytes = Some (End, bytes)

-- the command of a line with the bytes behind it, and what is left of these
abbrev pub behind_line : List ℕ → List ℕ → Option (Command × List ℕ)
behind_line line bytes = option_and_then (λ b. completed b bytes) (begun_by (words_of_line line))

-- the first command, and the bytes behind it: none where it is bad or none begins
abbrev pub first_command : List ℕ → Option (Command × List ℕ)
first_command bytes = option_and_then (λ l. behind_line l.0 l.1) (first_line bytes)

-- the path and the bytes of a command are as short as those of an edit
abbrev pub IsBounded : Command → Type 0
IsBounded (Put path bytes) = (is_edit_path path ≡ true) × (length bytes ≤ 16777216)
IsBounded (Cut path) = is_edit_path path ≡ true
IsBounded Report = Unit {0}
IsBounded End = Unit {0}
