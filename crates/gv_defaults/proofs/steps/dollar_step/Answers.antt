use Rattle.std.proofs.Common.{refl}
use Rattle.gv_defaults.proofs.StepLemmas.{found}
use Rattle.gv_defaults.proofs.steps.dollar_step.Goals as goal

pub returns-in-Some : goal.returns-in-Some
returns-in-Some c = found c.args.quotes c.args.behind.now _ _ c.in-Some.ensures.0 c.in-Some.ensures.1 (λ look. refl) refl refl
