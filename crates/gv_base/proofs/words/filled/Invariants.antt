use Rattle.std.proofs.Common.{◌≡◌, ◌++◌, not, length}
use Rattle.std.specs.Prelude.{filter}
use Rattle.gv_base.specs.Pieces.{left}
use Rattle.gv_base.specs.Words.{is_empty, filled}
use Rattle.gv_base.proofs.words.filled.Given as goal

abbrev pub invariant-loop-piece : goal.invariant-loop-piece
invariant-loop-piece l = l.texts ++ filter (λ piece. not (is_empty piece)) (left l.cut l.rest) ≡ filled l.cut l.bytes

abbrev pub decreases-loop-piece : goal.decreases-loop-piece
decreases-loop-piece l = length (left l.cut l.rest)
