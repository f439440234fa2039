use Rattle.std.proofs.Common.{◌≡◌, ◌++◌, drop}
use Rattle.std.specs.Prelude.{flat_map}
use Rattle.gv_renew.specs.Mentioned.{class_numbers}
use Rattle.gv_renew.proofs.mentioned.add_classes.Given as goal

abbrev pub invariant-loop-class : goal.invariant-loop-class
invariant-loop-class l = l.numbers ++ flat_map (class_numbers l.body) (drop l.class-index l.classes) ≡ l.initial.numbers ++ flat_map (class_numbers l.body) l.classes
