use Rattle.std.proofs.Common.{◌≡◌, ◌≤◌, length}
use Rattle.gv_base.specs.declared.pieces.Cut.TheVariants.{Tokens}
use Rattle.gv_base.specs.Pieces.{left}
use Rattle.gv_expr.specs.Spaced.{tokens_in}
use Rattle.gv_expr.proofs.reading.next_word.Given as goal

abbrev pub invariant-loop-piece : goal.invariant-loop-piece
invariant-loop-piece l = record {
  words : tokens_in (left Tokens l.rest) ≡ tokens_in (left Tokens l.fn.rest);
  fewer : length (left Tokens l.rest) ≤ length (left Tokens l.fn.rest);
}

abbrev pub decreases-loop-piece : goal.decreases-loop-piece
decreases-loop-piece l = length (left Tokens l.rest)
