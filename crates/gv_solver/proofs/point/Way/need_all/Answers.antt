use Rattle.std.proofs.Common.{◌≡◌, ap, get_or, subst, ◌∙◌}
use Rattle.gv_logic.specs.Literals.{opposite}
use Rattle.gv_solver.specs.Point.{Needs}
use Rattle.gv_trail.specs.Entries.{assignment}
use Rattle.gv_solver.proofs.Counts.{counts_next}
use Rattle.gv_solver.proofs.Points.{needs_next, at_zero}
use Rattle.gv_solver.proofs.point.Way.need_all.Goals as goal

pub loop-lit-preserved : goal.loop-lit-preserved
loop-lit-preserved c =
    let turned : c.opposite.result ≡ opposite (get_or c.args.lits.now c.loop-lit.lit-index 0) = c.opposite.ensures ∙ ap opposite (at_zero c.args.lits.now c.loop-lit.lit-index c.lit-item.result c.loop-lit-test.true c.lit-item.is) in
    record {
      needs = needs_next (assignment c.args.trail.now) c.args.lits.now c.loop-lit.lit-index c.args.self.now c.loop-lit.self c.need.new.self c.loop-lit-test.true c.loop-lit.invariant.needs
          (subst (λ l. Needs (assignment c.args.trail.now) l c.loop-lit.self c.need.new.self) turned c.need.ensures.needs);
      counts = counts_next c.args.trail.now c.args.lits.now c.loop-lit.lit-index c.opposite.result c.args.self.now c.loop-lit.self c.need.new.self c.loop-lit-test.true turned c.loop-lit.invariant.counts c.need.ensures.counts;
    }
