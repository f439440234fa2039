use Rattle.std.proofs.Common.{◌∙◌}
use Rattle.gv_version.specs.PieceReading.{shown_piece}
use Rattle.gv_version.proofs.PieceLaw.{begins_step}
use Rattle.gv_version.proofs.order.begins_texts.Goals as goal

pub pieces-preserved : goal.pieces-preserved
pieces-preserved c =
    let arm = c.in-Some-Some in
    begins_step c.pieces.v_rest.now c.pieces.w_rest.now (shown_piece arm.p, arm.v_more.now) (shown_piece arm.q, arm.w_more.now) c.agrees.result
    arm.ensures.piece arm.ensures'.piece c.agrees.ensures c.if-not-agrees.false ∙ c.pieces.invariant
