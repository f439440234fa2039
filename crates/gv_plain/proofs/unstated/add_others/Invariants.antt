use Rattle.std.proofs.Common.{◌≡◌, ◌++◌, drop}
use Rattle.std.specs.Prelude.{flat_map}
use Rattle.gv_plain.specs.Context.{case_of}
use Rattle.gv_plain.specs.Plain.{unstated_among}
use Rattle.gv_plain.proofs.unstated.add_others.Given as goal

abbrev pub invariant-loop-other : goal.invariant-loop-other
invariant-loop-other l = l.reports ++ flat_map (unstated_among (case_of l.judged)) (drop l.other-index l.others)
    ≡ l.initial.reports ++ flat_map (unstated_among (case_of l.judged)) l.others
