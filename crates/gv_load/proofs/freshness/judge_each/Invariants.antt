use Rattle.std.proofs.Common.{◌≡◌, ◌++◌, map}
use Rattle.std.specs.FinMap.{get}
use Rattle.std.specs.Vec.Iter.{into_iter_items}
use Rattle.gv_load.specs.Freshness.{pf_kept}
use Rattle.gv_load.proofs.freshness.judge_each.Given as goal

-- what was judged so far and what is still to come are all
abbrev pub invariant-loop-read : goal.invariant-loop-read
invariant-loop-read l = l.kept ++ map (pf_kept (get l.digests)) (into_iter_items l.read-iterator) ≡ map (pf_kept (get l.digests)) l.fn.reads
