use Rattle.std.proofs.Common.{arith, sym, ◌∙◌}
use Rattle.gv_renew.proofs.PlaceLemmas.{more_alike}
use Rattle.gv_renew.proofs.exchanging.count_alike.Goals as goal

pub loop-count-preserved : goal.loop-count-preserved
loop-count-preserved c =
    let lt = c.loop-count-test.true in
    let less = c.if-count-fresh.true in
    let same = (c.ordered_law.ensures.exact c.index-stale-count.result.now c.index-fresh-count.result).0 (sym c.is_same.ensures ∙ c.if-is_same.true) in (
      omega (arith, lt),
      omega (arith, less),
      more_alike (λ r. r.now) c.args.stale.now c.args.fresh.now c.loop-count.count c.index-stale-count.result c.index-fresh-count.result
          c.loop-count.invariant.2 lt less c.index-stale-count.is c.index-fresh-count.is same,
    )
