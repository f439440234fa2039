use Rattle.std.proofs.Common.{◌||◌, ◌<◌, length, get_or, ◌≡◌}
use Rattle.std.specs.List.{list_any}
use Rattle.gv_facts.specs.Places.{names_flag}
use Rattle.gv_usestate.specs.FlagSets.{has_flag}
use Rattle.gv_usestate.proofs.FlagSetLemmas.{one_more_rule}
use Rattle.gv_usestate.proofs.ruled.add_rules.Goals as goal

pub loop-rule-preserved : goal.loop-rule-preserved
loop-rule-preserved c =
    let rules = c.args.rules.now in
    let r = c.rule-item.result in
    let lt : c.loop-rule.rule-index < length rules = rw c.items-rule-items.ensures at c.loop-rule-test.true in
    let is : r ≡ get_or rules c.loop-rule.rule-index r = rw c.items-rule-items.ensures at c.rule-item.is in
    λ flag. one_more_rule c.loop-rule.flags.keys c.insert.new.self.keys rules c.loop-rule.rule-index r c.bytes.result lt is c.bytes.ensures c.in_ok-insert.ensures.keys flag
    (has_flag c.args.flags.now.keys flag || list_any (names_flag flag) rules) (c.loop-rule.invariant flag)
