use Rattle.std.proofs.Common.{◌∙◌, sym}
use Rattle.gv_refute.proofs.LeastClause.{not_empty, other_last, by_front}
use Rattle.gv_refute.proofs.checker.is_least.Goals as goal

pub returns-in_default : goal.returns-in_default
returns-in_default c = not_empty c.args.lits.now c.args.bits.now c.args.input c.in_default.ensures.cases

pub returns-then-last-input : goal.returns-then-last-input
returns-then-last-input c =
    other_last c.args.lits.now c.args.bits.now c.args.input c.in-Some.front.now c.in-Some.last.now c.in-Some.ensures.cases.0 (λ e. c.if-last-input.true (c.last.view_is ∙ e))

pub returns : goal.returns
returns c =
    by_front c.args.lits.now c.args.bits.now c.args.input c.in-Some.front.now c.in-Some.last.now c.in-Some.ensures.cases.0 c.are_offs.result
    (sym c.last.view_is ∙ c.if-last-input.false) c.are_offs.ensures
