use Rattle.std.proofs.Common.{◌≡◌, ◌++◌, drop}
use Rattle.gv_load.proofs.lists.add_notes.Given as goal

abbrev pub invariant-loop-note : goal.invariant-loop-note
invariant-loop-note l = l.notes ++ drop l.note-index l.more ≡ l.fn.notes ++ l.more
