use Rattle.gv_refute.proofs.RuleByRule.{rules}
use Rattle.gv_refute.proofs.laws.rule_law.Goals as goal

pub returns : goal.returns
returns c = rules
