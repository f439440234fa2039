use Rattle.std.proofs.Common.{◌≡◌, ◌++◌, drop}
use Rattle.gv_profile.proofs.flag_rules.add_copies.Given as goal

abbrev pub invariant-loop-rule : goal.invariant-loop-rule
invariant-loop-rule l = l.rules ++ drop l.rule-index l.more ≡ l.fn.rules ++ l.more
