use Rattle.std.proofs.Common.{◌≡◌, ◌++◌, drop, filter, map}
use Rattle.gv_plain.specs.Plain.{other_flags}
use Rattle.gv_plain.specs.PlainReports.{is_readable}
use Rattle.gv_plain.proofs.unstated.others_among.Given as goal

abbrev pub invariant-loop-class : goal.invariant-loop-class
invariant-loop-class l = l.others.items ++ map (other_flags l.pkg l.body) (filter (is_readable l.pkg l.body) (drop l.class-index l.classes))
    ≡ map (other_flags l.pkg l.body) (filter (is_readable l.pkg l.body) l.classes)
