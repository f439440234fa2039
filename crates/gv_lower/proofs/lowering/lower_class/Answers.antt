use Rattle.std.proofs.Common.{◌++◌, subst, ap, ◌∙◌}
use Rattle.std.specs.Prelude.{filter}
use Rattle.gv_base.specs.Order.{in_order}
use Rattle.gv_expr.specs.Dep.{deps}
use Rattle.gv_expr.specs.Mentions.{dep_mentions, req_mentions}
use Rattle.gv_expr.specs.Required.{reqs}
use Rattle.gv_facts.specs.Preferred.{preferred}
use Rattle.gv_facts.specs.States.{state}
use Rattle.gv_entry.specs.Allowed.{is_free}
use Rattle.gv_entry.specs.Weight.{weight}
use Rattle.gv_lower.specs.Around.{parent_of}
use Rattle.gv_lower.specs.Lowering.{IsQuery, Lowered}
use Rattle.gv_lower.specs.QueryGates.{failing_gates, failing_items}
use Rattle.gv_visible.specs.Candidates.{profile_of}
use Rattle.gv_lower.proofs.lowering.lower_class.Goals as goal

pub returns-in-Ok : goal.returns-in-Ok
returns-in-Ok g c =
    subst (λ fs. Lowered fs (weight (parent_of c.args.candidates.now c.args.pkg.now) c.args.required.now c.args.class.now)
    (IsQuery (failing_gates (parent_of c.args.candidates.now c.args.pkg.now) c.args.required.now c.args.class.now fs) fs (failing_items (parent_of c.args.candidates.now c.args.pkg.now) c.args.required.now c.args.class.now fs) (preferred c.args.pkg.now fs)) c.lower_few_of.result)
    (c.in-Ok.ensures.1 ∙ (c.in_ok-flags.ensures.flags
    ∙ (ap (λ r. filter (λ flag. is_free (state c.args.pkg.now r c.level.result flag)) (in_order (req_mentions (reqs c.args.required.now) ++ dep_mentions (deps c.args.class.now)))) c.profile.ensures
    ∙ ap (λ l. filter (λ flag. is_free (state c.args.pkg.now (profile_of c.args.candidates.now) l flag)) (in_order (req_mentions (reqs c.args.required.now) ++ dep_mentions (deps c.args.class.now)))) c.level.ensures)))
    c.lower_few_of.ensures
