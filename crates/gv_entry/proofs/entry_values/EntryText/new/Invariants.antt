use Rattle.std.proofs.Common.{◌≡◌, ◌++◌, length, map}
use Rattle.gv_base.specs.declared.pieces.Cut.TheVariants.{Lines}
use Rattle.gv_base.specs.Pieces.{left}
use Rattle.gv_base.specs.Words.{lines_of}
use Rattle.gv_entry.proofs.entry_values.EntryText.new.Given as goal

abbrev pub invariant-loop-line : goal.invariant-loop-line
invariant-loop-line l = map (λ line. line.now) l.lines.items ++ left Lines l.rest ≡ lines_of l.bytes

abbrev pub decreases-loop-line : goal.decreases-loop-line
decreases-loop-line l = length (left Lines l.rest)
