use Rattle.std.proofs.Common.{◌≡◌, ◌++◌, length}
use Rattle.std.specs.List.{enumerate_from, filter_map}
use Rattle.gv_base.specs.declared.pieces.Cut.TheVariants.{Lines}
use Rattle.gv_base.specs.Pieces.{left}
use Rattle.gv_profile.specs.Lines.{line_words}
use Rattle.gv_load.specs.Notes.{bad_category, category_notes}
use Rattle.gv_load.proofs.lists.category_notes.Given as goal

abbrev pub invariant-loop-piece : goal.invariant-loop-piece
invariant-loop-piece l = l.notes ++ filter_map (λ n. bad_category n.0 (line_words n.1)) (enumerate_from l.line (left Lines l.rest)) ≡ category_notes l.bytes

abbrev pub decreases-loop-piece : goal.decreases-loop-piece
decreases-loop-piece l = length (left Lines l.rest)
