use Rattle.std.proofs.Common.{◌≡◌, drop}
use Rattle.std.specs.List.{list_any}
use Rattle.gv_renew.specs.Lasting.{touches_place}
use Rattle.gv_renew.proofs.lasting.some_touches.Given as goal

abbrev pub invariant-loop-place : goal.invariant-loop-place
invariant-loop-place l = list_any (touches_place l.touched) (drop l.place-index l.places) ≡ list_any (touches_place l.touched) l.places
