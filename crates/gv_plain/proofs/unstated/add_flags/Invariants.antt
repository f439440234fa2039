use Rattle.std.proofs.Common.{◌≡◌, ◌++◌, drop, filter, map}
use Rattle.gv_plain.specs.Context.{case_of}
use Rattle.gv_plain.specs.PlainReports.{is_unstated, unstated}
use Rattle.gv_plain.proofs.unstated.add_flags.Given as goal

abbrev pub invariant-loop-flag : goal.invariant-loop-flag
invariant-loop-flag l = l.reports ++ map (unstated (case_of l.judged) l.class) (filter (is_unstated (case_of l.judged)) (drop l.flag-index l.flags))
    ≡ l.initial.reports ++ map (unstated (case_of l.judged) l.class) (filter (is_unstated (case_of l.judged)) l.flags)
