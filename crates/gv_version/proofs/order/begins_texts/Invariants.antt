use Rattle.std.proofs.Common.{◌≡◌, length}
use Rattle.gv_version.specs.PieceReading.{pieces_in}
use Rattle.gv_version.specs.Pieces.{is_front}
use Rattle.gv_version.proofs.order.begins_texts.Given as goal

abbrev pub invariant-pieces : goal.invariant-pieces
invariant-pieces l = is_front (pieces_in l.v_rest) (pieces_in l.w_rest) ≡ is_front (pieces_in l.v) (pieces_in l.w)

abbrev pub decreases-pieces : goal.decreases-pieces
decreases-pieces l = length l.v_rest
