use Rattle.std.proofs.Common.{◌≡◌, ◌++◌, drop}
use Rattle.gv_base.specs.PrivateWords.{each_behind}
use Rattle.gv_base.proofs.words.append_each.Given as goal

abbrev pub invariant-loop-item : goal.invariant-loop-item
invariant-loop-item l = l.text ++ each_behind l.byte (drop l.item-index l.rest) ≡ l.fn.text ++ each_behind l.byte l.rest
