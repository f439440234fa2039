use Rattle.std.proofs.Common.{◌≡◌, ◌++◌, take}
use Rattle.gv_atom.specs.Printing.{more_items_text}
use Rattle.gv_atom.proofs.printing.append_more.Given as goal

abbrev pub invariant-loop-item : goal.invariant-loop-item
invariant-loop-item l = l.text ≡ l.initial.text ++ more_items_text (take l.item-index l.items)
