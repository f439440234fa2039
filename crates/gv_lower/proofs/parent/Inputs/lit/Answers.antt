use Rattle.std.proofs.Common.{◌≡◌, ◌*◌, sym, subst, ◌∙◌}
use Rattle.gv_base.specs.Order.{IsAscending}
use Rattle.gv_lower.specs.QueryGates.{input_or}
use Rattle.gv_lower.specs.TreeGates.{signed}
use Rattle.gv_lower.proofs.InputSearch.{input_absent, input_there}
use Rattle.gv_lower.proofs.parent.Inputs.lit.Goals as goal

pub returns-in-Ok : goal.returns-in-Ok
returns-in-Ok c = λ preferred other.
    subst (λ fs. input_or 0 fs c.args.flag.now preferred other ≡ signed preferred (2 * c.in-Ok.i)) (c.items.ensures ∙ c.self.view_is)
    (input_there c.byte_order_law.ensures c.args.flag.now c.items.result.now (subst IsAscending (sym c.items.ensures) c.self.invariant.ascend) c.in-Ok.i c.in-Ok.ensures.bound c.in-Ok.ensures.position preferred other)

pub returns-in-Err : goal.returns-in-Err
returns-in-Err c = λ preferred other.
    subst (λ fs. input_or 0 fs c.args.flag.now preferred other ≡ other) (c.items.ensures ∙ c.self.view_is)
    (input_absent c.byte_order_law.ensures c.args.flag.now c.items.result.now (subst IsAscending (sym c.items.ensures) c.self.invariant.ascend) c.in-Err.field-0 c.in-Err.ensures.position preferred other)
