use Rattle.std.proofs.Common.{◌≡◌, drop}
use Rattle.gv_views.specs.Layout.{are_distinct}
use Rattle.gv_views.proofs.layout.are_distinct.Given as goal

abbrev pub invariant-loop-i : goal.invariant-loop-i
invariant-loop-i l = are_distinct (drop l.i l.texts) ≡ are_distinct l.texts
