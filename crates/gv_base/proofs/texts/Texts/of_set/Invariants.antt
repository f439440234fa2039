use Rattle.std.proofs.Common.{◌≡◌, ◌++◌}
use Rattle.gv_base.proofs.texts.Texts.of_set.Given as goal

abbrev pub invariant-loop-item : goal.invariant-loop-item
invariant-loop-item l = l.texts ++ l.item-iterator ≡ l.fn.set.keys
