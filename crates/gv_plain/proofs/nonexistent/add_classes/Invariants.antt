use Rattle.std.proofs.Common.{◌≡◌, ◌++◌, drop, filter}
use Rattle.std.specs.Prelude.{flat_map}
use Rattle.gv_plain.specs.PlainReports.{is_readable, nonexistent_in}
use Rattle.gv_plain.proofs.nonexistent.add_classes.Given as goal

abbrev pub invariant-loop-class : goal.invariant-loop-class
invariant-loop-class l = l.reports ++ flat_map (nonexistent_in l.pkgs l.pkg l.body) (filter (is_readable l.pkg l.body) (drop l.class-index l.classes))
    ≡ l.initial.reports ++ flat_map (nonexistent_in l.pkgs l.pkg l.body) (filter (is_readable l.pkg l.body) l.classes)
