use Rattle.std.proofs.Common.{◌++◌, ◌∷◌, [], ap, ◌∙◌}
use Rattle.gv_views.proofs.Lists.{reversed_next}
use Rattle.gv_views.proofs.layers.add_reversed.Goals as goal

pub loop-i-preserved : goal.loop-i-preserved
loop-i-preserved c =
    reversed_next c.args.others.now c.loop-i.texts c.add.new.self _ c.loop-i.i c.index-others-others.result c.loop-i-test.true c.index-others-others.is
    (c.in_ok-add.ensures.ok ∙ ap (λ x. c.loop-i.texts ++ x ∷ []) c.in_ok-copy.ensures) c.loop-i.invariant
