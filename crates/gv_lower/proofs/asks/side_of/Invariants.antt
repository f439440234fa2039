use Rattle.gv_lower.specs.Parent.{base_at}
use Rattle.gv_lower.proofs.Grouping.{WalksOn, left_at}
use Rattle.gv_lower.proofs.asks.side_of.Given as goal

abbrev pub invariant-loop-at : goal.invariant-loop-at
invariant-loop-at l = WalksOn l.side (base_at l.parent) l.chains l.flag l.first l.lits l.at

abbrev pub decreases-loop-at : goal.decreases-loop-at
decreases-loop-at l = left_at l.chains l.at
