use Rattle.std.proofs.Common.{◌≡◌, ◌++◌, drop, filter}
use Rattle.gv_plain.specs.Plain.{is_other}
use Rattle.gv_plain.proofs.unstated.others_of.Given as goal

abbrev pub invariant-loop-flag : goal.invariant-loop-flag
invariant-loop-flag l = l.others ++ filter (is_other l.pkg) (drop l.flag-index l.flags) ≡ filter (is_other l.pkg) l.flags
