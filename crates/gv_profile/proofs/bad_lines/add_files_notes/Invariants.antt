use Rattle.std.proofs.Common.{◌≡◌, ◌++◌, drop}
use Rattle.gv_profile.specs.Notes.{files_notes}
use Rattle.gv_profile.proofs.bad_lines.add_files_notes.Given as goal

abbrev pub invariant-loop-file : goal.invariant-loop-file
invariant-loop-file l = l.notes ++ files_notes l.kind (drop l.file-index l.files) ≡ l.fn.notes ++ files_notes l.kind l.files
