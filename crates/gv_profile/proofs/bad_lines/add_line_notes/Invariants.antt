use Rattle.std.proofs.Common.{◌≡◌, ◌++◌, length}
use Rattle.std.specs.List.{enumerate_from}
use Rattle.gv_base.specs.declared.pieces.Cut.TheVariants.{Lines}
use Rattle.gv_base.specs.Pieces.{left}
use Rattle.gv_profile.specs.Notes.{notes_among, line_notes}
use Rattle.gv_profile.proofs.bad_lines.add_line_notes.Given as goal

abbrev pub invariant-loop-piece : goal.invariant-loop-piece
invariant-loop-piece l = l.notes ++ notes_among l.kind l.path (enumerate_from l.line (left Lines l.rest)) ≡ l.fn.notes ++ line_notes l.kind l.path l.bytes

abbrev pub decreases-loop-piece : goal.decreases-loop-piece
decreases-loop-piece l = length (left Lines l.rest)
