use Rattle.std.proofs.Common.{◌++◌, ap, arith, drop, map-id, sym, take, ◌∙◌}
use Rattle.std.proofs.lemmas.Iterator.{items_from_drains}
use Rattle.std.proofs.lemmas.Iterator.Adapters.{YieldsList-from_vec}
use Rattle.gv_renew.proofs.exchanging.put_in.Goals as goal

pub returns : goal.returns
returns c =
    let all = c.args.items.now.items in
    let e = c.in_ok-splice.ensures.items in
    let others = sym (map-id e.1)
    ∙ items_from_drains e.1 (e.3.1.0, e.3.1.1, λ _. (e.3.0, e.3.1.2)) (YieldsList-from_vec c.args.others.items e.2.0 (omega (arith, e.2.1, c.args.others.ok))) in
    e.4 ∙ ap (λ l. take c.args.first all ++ (l ++ drop c.args.first all)) others
