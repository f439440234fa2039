use Rattle.std.proofs.Common.{[], ◌∷◌, refl}
use Rattle.gv_lower.specs.AtomGates.{not_both}
use Rattle.gv_lower.specs.Drawn.{Drew}
use Rattle.gv_lower.proofs.Drawing.{both_ok, not_both_drew}
use Rattle.gv_lower.proofs.asks.not_both.Goals as goal

pub returns : goal.returns
returns c =
    both_ok c.add-3.result _ _ (λ lit. Drew (not_both c.args.on.now c.args.off.now) c.args.sketch.now c.add-3.new.self lit) c.add-3.ensures.lit c.add-3.ensures.draft (λ lit l e.
    not_both_drew c.args.on.now c.args.off.now c.args.sketch.now c.add.new.self c.add-2.new.self c.add-3.new.self c.in_ok-some_on.some_on c.in_ok-some_off.some_off c.opposite.result c.opposite-2.result lit
    (c.opposite.result ∷ c.opposite-2.result ∷ [])
    c.in_ok-some_on.ensures.lit c.in_ok-some_on.ensures.draft c.in_ok-some_off.ensures.lit c.in_ok-some_off.ensures.draft c.opposite.ensures c.opposite-2.ensures refl l e)
