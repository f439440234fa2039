use Rattle.std.proofs.Common.{◌≡◌, drop}
use Rattle.gv_profcheck.specs.Redundant.{have_offers}
use Rattle.gv_profcheck.proofs.versions.have_offers.Given as goal

abbrev pub invariant-loop-keyword : goal.invariant-loop-keyword
invariant-loop-keyword l = have_offers l.keywords (drop l.keyword-index l.of) ≡ have_offers l.keywords l.of
