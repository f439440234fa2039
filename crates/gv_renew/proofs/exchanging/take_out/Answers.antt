use Rattle.std.proofs.Common.{◌++◌, ap, arith, drop, map-id, sym, take, ◌∙◌}
use Rattle.std.proofs.lemmas.Iterator.{items_from_drains}
use Rattle.std.proofs.lemmas.Iterator.Adapters.{YieldsList-from_vec}
use Rattle.gv_renew.proofs.exchanging.take_out.Goals as goal

pub returns-clause-left : goal.returns-clause-left
returns-clause-left c =
    let all = c.args.items.now.items in
    let e = c.in_ok-report-items.ensures.items in
    let none = sym (map-id e.1)
    ∙ items_from_drains e.1 (e.3.1.0, e.3.1.1, λ _. (e.3.0, e.3.1.2)) (YieldsList-from_vec c.new.result.items e.2.0 (omega (arith, e.2.1, c.new.result.ok)))
    ∙ c.new.ensures.items in
    e.4 ∙ ap (λ l. take c.args.first all ++ (l ++ drop c.args.end all)) none
