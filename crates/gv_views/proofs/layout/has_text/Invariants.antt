use Rattle.std.proofs.Common.{◌≡◌, drop}
use Rattle.gv_base.specs.Order.{has_text}
use Rattle.gv_views.proofs.layout.has_text.Given as goal

abbrev pub invariant-loop-other : goal.invariant-loop-other
invariant-loop-other l = has_text (drop l.other-index l.texts) l.text ≡ has_text l.texts l.text
