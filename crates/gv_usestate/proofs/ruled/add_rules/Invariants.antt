use Rattle.std.proofs.Common.{◌≡◌, ◌||◌, ℕ, List, drop}
use Rattle.std.specs.List.{list_any}
use Rattle.gv_facts.specs.Places.{names_flag}
use Rattle.gv_usestate.specs.FlagSets.{has_flag}
use Rattle.gv_usestate.proofs.ruled.add_rules.Given as goal

abbrev pub invariant-loop-rule : goal.invariant-loop-rule
invariant-loop-rule l = (flag : List ℕ) → (has_flag l.flags.keys flag || list_any (names_flag flag) (drop l.rule-index l.rules)) ≡ (has_flag l.initial.flags.keys flag || list_any (names_flag flag) l.rules)
