use Rattle.std.proofs.Common.{◌≡◌, ◌*◌, false, replicate, rules, length, arith, ap}
use Rattle.std.proofs.lemmas.List.{length-replicate}
use Rattle.gv_refute.proofs.NoteLemmas.{noted_new}
use Rattle.gv_refute.proofs.marks.Marks.new.Goals as goal

pub invariant_of-result : goal.invariant_of-result
invariant_of-result c =
    let e : c.in_ok-on.on.items ≡ replicate (2 * c.args.variables) false = search rules in
    (noted_new (2 * c.args.variables) _ _ e c.in_ok-noted.ensures.items, omega (arith, ap length e, length-replicate (2 * c.args.variables) false, c.in_ok-noted.ensures.exact))
