use Rattle.std.proofs.Common.{◌≡◌, ◌-◌, ◌≤◌, length, map, take}
use Rattle.gv_renew.proofs.exchanging.count_alike.Given as goal

abbrev pub invariant-loop-count : goal.invariant-loop-count
invariant-loop-count l = (l.count ≤ length l.stale) × (l.count ≤ length l.fresh) × (take l.count (map (λ r. r.now) l.stale) ≡ take l.count l.fresh)

abbrev pub decreases-loop-count : goal.decreases-loop-count
decreases-loop-count l = length l.stale - l.count
