use Rattle.std.proofs.Common.{◌≡◌, take}
use Rattle.gv_facts.proofs.rules.Rules.copy.Given as goal

abbrev pub invariant-loop-item : goal.invariant-loop-item
invariant-loop-item l = l.rules ≡ take l.item-index l.self
