use Rattle.std.proofs.Common.{arith, sym, ◌∙◌}
use Rattle.gv_renew.proofs.PlaceLemmas.{more_alike_last}
use Rattle.gv_renew.proofs.exchanging.count_alike_last.Goals as goal

pub loop-count-preserved : goal.loop-count-preserved
loop-count-preserved c =
    let lt = c.loop-count-test.true in
    let less = c.if-count-fresh.true in
    let same = (c.ordered_law.ensures.exact c.index-stale-stale.result.now c.index-fresh-fresh.result).0 (sym c.is_same.ensures ∙ c.if-is_same.true) in (
      omega (arith, lt),
      omega (arith, less),
      more_alike_last (λ r. r.now) c.args.stale.now c.args.fresh.now c.loop-count.count c.index-stale-stale.result c.index-fresh-fresh.result
          c.loop-count.invariant.2 lt less c.index-stale-stale.is c.index-fresh-fresh.is same,
    )
