use Rattle.std.proofs.Common.{◌≡◌, ◌-◌, ◌≤◌, drop, length, map}
use Rattle.gv_renew.proofs.exchanging.count_alike_last.Given as goal

abbrev pub invariant-loop-count : goal.invariant-loop-count
invariant-loop-count l =
    (l.count ≤ length l.stale) × (l.count ≤ length l.fresh)
    × (drop (length l.stale - l.count) (map (λ r. r.now) l.stale) ≡ drop (length l.fresh - l.count) l.fresh)

abbrev pub decreases-loop-count : goal.decreases-loop-count
decreases-loop-count l = length l.stale - l.count
