use Rattle.std.proofs.Common.{◌≡◌, ◌++◌, drop}
use Rattle.std.specs.Prelude.{flat_map}
use Rattle.gv_renew.specs.Touched.{anew_of}
use Rattle.gv_renew.proofs.afresh.add_classes_anew.Given as goal

abbrev pub invariant-loop-class : goal.invariant-loop-class
invariant-loop-class l = l.reports ++ flat_map (anew_of l.walk.options l.walk.repo l.one) (drop l.class-index l.classes) ≡ l.initial.reports ++ flat_map (anew_of l.walk.options l.walk.repo l.one) l.classes
