use Rattle.std.proofs.Common.{◌≡◌, length}
use Rattle.gv_version.specs.PieceReading.{cmp_pieces, pieces_in}
use Rattle.gv_version.proofs.order.compare_texts.Given as goal

abbrev pub invariant-pieces : goal.invariant-pieces
invariant-pieces l = cmp_pieces (pieces_in l.a_rest) (pieces_in l.b_rest) ≡ cmp_pieces (pieces_in l.a) (pieces_in l.b)

abbrev pub decreases-pieces : goal.decreases-pieces
decreases-pieces l = length l.a_rest
