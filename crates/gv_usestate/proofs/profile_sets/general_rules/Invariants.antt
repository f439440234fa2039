use Rattle.std.proofs.Common.{◌≡◌, ◌++◌, drop, filter}
use Rattle.gv_usestate.specs.NamedPkgs.{is_general}
use Rattle.gv_usestate.proofs.profile_sets.general_rules.Given as goal

abbrev pub invariant-loop-rule : goal.invariant-loop-rule
invariant-loop-rule l = l.general ++ filter is_general (drop l.rule-index l.rules) ≡ filter is_general l.rules
