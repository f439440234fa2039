use Rattle.std.proofs.Common.{◌≡◌, ◌∙◌, ◌<◌, length, ap, refl, sym, arith}
use Rattle.std.proofs.lemmas.Grind.{common_steps}
use Rattle.gv_logic.specs.Logs.{Step}
use Rattle.gv_refute.proofs.StepLemmas.{has_at, empty_is}
use Rattle.gv_refute.proofs.checker.proves_none.Goals as goal

pub returns-then-is_empty : goal.returns-then-is_empty
returns-then-is_empty c =
    let none : length c.items.result.now ≡ 0 = grind (arith, common_steps, c.if-is_empty.ensures) in
    let empty = ap (λ (s : Step). s.clause) (sym c.step.view_is) ∙ sym c.items.ensures.items ∙ empty_is c.items.result.now none in
    let lt : c.loop-step.step-index < length c.args.log.now = omega (arith, ap length c.items-step-items.ensures.items) in
    let here = has_at _ c.args.log.now c.loop-step.step-index c.step-item.result lt (rw c.items-step-items.ensures.items at c.step-item.is) empty in
    (λ _. here, λ _. refl)
