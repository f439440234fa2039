use Rattle.std.proofs.Common.{length, arith}
use Rattle.gv_expr.specs.Dep.{deps}
use Rattle.gv_expr.specs.Required.{reqs}
use Rattle.gv_expr.specs.RequiredGrammar.{req_tokens}
use Rattle.gv_lower.specs.Around.{parent_of}
use Rattle.gv_lower.proofs.Naming.{class_less, class_named}
use Rattle.gv_lower.proofs.weigh.light_class.Goals as goal

pub returns-in-Ok : goal.returns-in-Ok
returns-in-Ok g c =
    let around = parent_of c.args.candidates.now c.args.pkg.now in
    let le = c.in-Ok.ensures (length (req_tokens (reqs c.args.required.now))) c.required_tokens-tokens.ensures in
    omega (arith, le, class_less around (deps c.args.class.now), class_named around (deps c.args.class.now))

pub returns-in-Ok-light_counted : goal.returns-in-Ok-light_counted
returns-in-Ok-light_counted g c =
    let around = parent_of c.args.candidates.now c.args.pkg.now in
    let le = c.in-Ok-light_counted.ensures (length (req_tokens (reqs c.args.required.now))) c.required_tokens-tokens.ensures in
    omega (arith, le, class_less around (deps c.args.class.now))
