use Rattle.std.proofs.Common.{◌-◌, ◌<◌, ◌++◌, [], ◌∷◌, ◌∙◌, ap, length, arith}
use Rattle.gv_solver.proofs.Points.{hints_next, at_zero}
use Rattle.gv_solver.proofs.point.Way.step.Goals as goal

pub loop-at-preserved : goal.loop-at-preserved
loop-at-preserved c =
    let lt : c.loop-at.at - 1 < length c.args.self.reasons.items = omega (arith, c.loop-at-test.true, c.loop-at.invariant.at) in
    record {
      hints = hints_next c.args.self.reasons.items c.loop-at.hints c.add.new.self _ c.loop-at.at (c.loop-at.at - 1) c.args.conflict (omega (arith, c.loop-at-test.true)) lt c.loop-at.invariant.hints
          (c.in_ok-add.ensures.ok ∙ ap (λ z. c.loop-at.hints ++ z ∷ []) (at_zero c.args.self.reasons.items (c.loop-at.at - 1) c.index.result.now lt c.index.ensures));
      at = omega (arith, lt);
    }
