use Rattle.gv_version.proofs.PieceLaw.{piece_digits, piece_shorter}
use Rattle.gv_version.proofs.pieces.next_piece.Goals as goal

pub returns-clause-digits : goal.returns-clause-digits
returns-clause-digits c = piece_digits c.args.bytes.now c.read_piece.result c.read_piece.ensures

pub returns-clause-shorter : goal.returns-clause-shorter
returns-clause-shorter c = piece_shorter c.args.bytes.now c.read_piece.result c.read_piece.ensures
