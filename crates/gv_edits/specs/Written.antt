-- How the commands of a script are written.
use Rattle.std.specs.Prelude.{◌≡◌, ℕ, List, [], ◌∷◌, ◌++◌, true, length, codes, Some}
use Rattle.gv_edits.specs.declared.command.Command.{Command}
use Rattle.gv_edits.specs.declared.command.Command.TheVariants.{Put, Cut, Report, End}
use Rattle.gv_edits.specs.Command.{first_command, is_edit_path}
use Rattle.gv_edits.specs.Length.{length_of}

-- the text is that of the command
abbrev pub Writes : List ℕ → Command → Type 0
Writes text (Put path bytes) =
    (word : List ℕ) × (length_of word ≡ Some (length bytes)) × (is_edit_path path ≡ true)
    × (text ≡ codes "put " ++ (path ++ 32 ∷ (word ++ 10 ∷ (bytes ++ 10 ∷ []))))
Writes text (Cut path) = (is_edit_path path ≡ true) × (text ≡ codes "cut " ++ (path ++ 10 ∷ []))
Writes text Report = text ≡ codes "report\n"
Writes text End = text ≡ codes "end\n"

-- bytes of which a command is read begin with its text, and what follows it is what is left
abbrev pub ReadAreWritten : Type 0
ReadAreWritten = (bytes rest : List ℕ) (command : Command) → first_command bytes ≡ Some (command, rest) → (text : List ℕ) × Writes text command × (bytes ≡ text ++ rest)
