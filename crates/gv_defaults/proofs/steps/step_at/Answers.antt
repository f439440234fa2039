use Rattle.std.proofs.Common.{sym}
use Rattle.gv_defaults.proofs.StepLemmas.{escape, dollar, one_byte}
use Rattle.gv_defaults.proofs.steps.step_at.Goals as goal

pub returns-then-escapes : goal.returns-then-escapes
returns-then-escapes c = escape c.args.quotes c.args.byte _ _ _ c.escaped.result c.in-Some.ensures (sym c.if-escapes.ensures) c.escaped.ensures

pub returns-then-is_dollar : goal.returns-then-is_dollar
returns-then-is_dollar c =
    dollar c.args.quotes c.args.byte _ _ _ _ c.in-Some.ensures (sym c.if-escapes.ensures) (sym c.if-is_dollar.ensures) c.dollar_step.ensures

pub returns-else-is_dollar : goal.returns-else-is_dollar
returns-else-is_dollar c =
    let made = c.byte_step-else-is_dollar in
    one_byte c.args.quotes c.args.byte _ _ _ _ c.in-Some.ensures (sym c.if-escapes.ensures) (sym c.if-is_dollar.ensures) made.ensures.meant made.ensures.len made.ensures.quotes
