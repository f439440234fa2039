use Rattle.std.proofs.Common.{◌≡◌, drop}
use Rattle.gv_base.specs.Order.{has_text}
use Rattle.gv_reading.specs.Paths.{within}
use Rattle.gv_reload.proofs.joined.any_joined.Given as goal

abbrev pub invariant-loop-text : goal.invariant-loop-text
invariant-loop-text l = has_text (drop l.text-index l.texts) (within l.first l.second) ≡ has_text l.texts (within l.first l.second)
