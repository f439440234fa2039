use Rattle.std.proofs.Common.{◌≡◌, length}
use Rattle.std.specs.List.{find}
use Rattle.gv_base.specs.declared.pieces.Cut.TheVariants.{Lines}
use Rattle.gv_base.specs.Pieces.{left}
use Rattle.gv_base.specs.Words.{lines_of}
use Rattle.gv_views.specs.Layout.{is_masters_line}
use Rattle.gv_views.proofs.layout.masters_line.Given as goal

abbrev pub invariant-loop-line : goal.invariant-loop-line
invariant-loop-line l = find is_masters_line (left Lines l.rest) ≡ find is_masters_line (lines_of l.bytes)

abbrev pub decreases-loop-line : goal.decreases-loop-line
decreases-loop-line l = length (left Lines l.rest)
