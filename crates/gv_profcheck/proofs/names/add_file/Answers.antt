use Rattle.gv_base.specs.declared.pieces.Cut.TheVariants.{Lines}
use Rattle.gv_base.specs.Pieces.{left}
use Rattle.gv_profcheck.proofs.LineSteps.{line_more}
use Rattle.gv_profcheck.proofs.names.add_file.Goals as goal

pub loop-line-preserved : goal.loop-line-preserved
loop-line-preserved c =
    line_more c.args.pkgs.now c.args.file.now c.loop-line.number c.in_ok-number.number c.in-Some.line.now (left Lines c.loop-line.rest) (left Lines c.next_piece.new.rest)
    c.loop-line.reports c.add_line.new.reports _ c.in-Some.ensures.taken c.in_ok-number.ensures c.in_ok-add_line.ensures c.loop-line.invariant
