use Rattle.std.proofs.Common.{map}
use Rattle.gv_renew.proofs.PlaceLemmas.{place_next}
use Rattle.gv_renew.proofs.exchanging.at_places.Goals as goal

pub loop-place-preserved : goal.loop-place-preserved
loop-place-preserved c =
    place_next c.args.reports.now c.args.places.now c.loop-place.place-index (map (λ r. r.now) c.loop-place.found.items) (map (λ r. r.now) c.add_at.new.found.items)
    c.loop-place-test.true c.in_ok-add_at.ensures c.loop-place.invariant
