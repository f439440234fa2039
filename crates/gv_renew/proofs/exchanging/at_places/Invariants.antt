use Rattle.std.proofs.Common.{◌≡◌, ◌++◌, drop, map}
use Rattle.gv_renew.specs.Exchanging.{at_places}
use Rattle.gv_renew.proofs.exchanging.at_places.Given as goal

abbrev pub invariant-loop-place : goal.invariant-loop-place
invariant-loop-place l = map (λ r. r.now) l.found.items ++ at_places l.reports (drop l.place-index l.places) ≡ at_places l.reports l.places
