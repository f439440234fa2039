use Rattle.std.proofs.Common.{◌∙◌}
use Rattle.gv_version.specs.PieceReading.{shown_piece}
use Rattle.gv_version.proofs.PieceLaw.{compare_step}
use Rattle.gv_version.proofs.order.compare_texts.Goals as goal

pub pieces-preserved : goal.pieces-preserved
pieces-preserved c =
    let arm = c.in-Some-Some in
    compare_step c.pieces.a_rest.now c.pieces.b_rest.now (shown_piece arm.p, arm.a_more.now) (shown_piece arm.q, arm.b_more.now) c.compare_pieces.result
    arm.ensures.piece arm.ensures'.piece c.compare_pieces.ensures c.in-Equal.is ∙ c.pieces.invariant
