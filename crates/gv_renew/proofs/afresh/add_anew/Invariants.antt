use Rattle.std.proofs.Common.{◌≡◌, ◌++◌, drop}
use Rattle.std.specs.Prelude.{flat_map}
use Rattle.gv_renew.specs.Touched.{anew_at}
use Rattle.gv_renew.proofs.afresh.add_anew.Given as goal

abbrev pub invariant-loop-one : goal.invariant-loop-one
invariant-loop-one l = l.reports ++ flat_map (anew_at l.walk.options l.walk.repo) (drop l.one-index l.touched) ≡ l.initial.reports ++ flat_map (anew_at l.walk.options l.walk.repo) l.touched
