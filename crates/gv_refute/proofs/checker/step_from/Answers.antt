use Rattle.std.proofs.Common.{◌∙◌, ap, sym}
use Rattle.gv_logic.specs.Logs.{Step}
use Rattle.gv_refute.proofs.StepLemmas.{has_at}
use Rattle.gv_refute.proofs.checker.step_from.Goals as goal

pub returns-then-is_least : goal.returns-then-is_least
returns-then-is_least c =
    let clause = ap (λ (s : Step). s.clause) (sym c.step.view_is) ∙ sym c.items.ensures.items ∙ c.if-is_least.ensures in
    has_at _ c.args.log.now c.loop-place.place c.index-log-place.result c.loop-place-test.true c.index-log-place.is clause
