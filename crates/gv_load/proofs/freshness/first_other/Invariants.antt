use Rattle.std.proofs.Common.{◌≡◌, drop}
use Rattle.std.specs.FinMap.{get}
use Rattle.gv_load.specs.Freshness.{first_other}
use Rattle.gv_load.proofs.freshness.first_other.Given as goal

abbrev pub invariant-loop-e : goal.invariant-loop-e
invariant-loop-e l = first_other (get l.digests) (drop l.e-index l.eclasses) ≡ first_other (get l.digests) l.eclasses
