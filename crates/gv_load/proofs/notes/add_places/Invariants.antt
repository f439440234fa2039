use Rattle.std.proofs.Common.{◌≡◌, ◌++◌, drop, map}
use Rattle.gv_load.specs.Notes.{place_report}
use Rattle.gv_load.proofs.notes.add_places.Given as goal

abbrev pub invariant-loop-note : goal.invariant-loop-note
invariant-loop-note l = l.reports ++ map (place_report l.keyword) (drop l.note-index l.notes) ≡ l.fn.reports ++ map (place_report l.keyword) l.notes
