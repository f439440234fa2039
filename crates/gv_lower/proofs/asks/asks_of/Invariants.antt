use Rattle.gv_lower.specs.Parent.{base_at}
use Rattle.gv_lower.proofs.Grouping.{AsksOn}
use Rattle.gv_lower.proofs.asks.asks_of.Given as goal

abbrev pub invariant-loop-i : goal.invariant-loop-i
invariant-loop-i l = AsksOn (base_at l.parent) l.items l.asks.items l.i
