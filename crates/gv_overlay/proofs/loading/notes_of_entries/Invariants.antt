use Rattle.std.proofs.Common.{◌≡◌, ◌++◌, drop, filter}
use Rattle.gv_overlay.specs.Overlays.{is_of_entry}
use Rattle.gv_overlay.proofs.loading.notes_of_entries.Given as goal

abbrev pub invariant-loop-note : goal.invariant-loop-note
invariant-loop-note l = l.kept ++ filter is_of_entry (drop l.note-index l.notes) ≡ filter is_of_entry l.notes
