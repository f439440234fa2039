use Rattle.std.proofs.Common.{◌≡◌, ◌++◌, drop}
use Rattle.gv_reload.specs.Replacing.{edited_notes}
use Rattle.gv_reload.proofs.replacing.edited_notes.Given as goal

abbrev pub invariant-loop-note : goal.invariant-loop-note
invariant-loop-note l = l.edited ++ edited_notes l.edits (drop l.note-index l.notes) ≡ edited_notes l.edits l.notes
