use Rattle.std.proofs.Common.{◌≡◌, ◌++◌, drop}
use Rattle.gv_renew.specs.Exchanging.{from_place}
use Rattle.gv_renew.proofs.exchanging.from_place.Given as goal

abbrev pub invariant-loop-place : goal.invariant-loop-place
invariant-loop-place l = l.later.items ++ from_place l.first (drop l.place-index l.places) ≡ from_place l.first l.places
