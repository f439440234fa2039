use Rattle.std.proofs.Common.{[], subst, ◌∙◌}
use Rattle.gv_facts.specs.Preferred.{preferred}
use Rattle.gv_entry.specs.Weight.{weight}
use Rattle.gv_lower.specs.Around.{alone}
use Rattle.gv_lower.specs.Lowering.{IsQuery, Lowered}
use Rattle.gv_lower.specs.QueryGates.{allowed_gates}
use Rattle.gv_lower.proofs.lowering.lower_required.Goals as goal

pub returns-in-Ok : goal.returns-in-Ok
returns-in-Ok c =
    subst (λ fs. Lowered fs (weight (alone c.args.pkg.now c.args.profile.now c.args.level) c.args.required.now []) (IsQuery (allowed_gates (alone c.args.pkg.now c.args.profile.now c.args.level) c.args.required.now fs) fs [] (preferred c.args.pkg.now fs)) c.lower_few.result)
    (c.in-Ok.ensures.1 ∙ c.in_ok-flags.ensures.flags) c.lower_few.ensures
