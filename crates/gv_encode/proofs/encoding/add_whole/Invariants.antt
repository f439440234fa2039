use Rattle.std.proofs.Common.{◌≡◌, ◌∷◌, take}
use Rattle.gv_encode.proofs.encoding.add_whole.Given as goal

abbrev pub invariant-loop-lit : goal.invariant-loop-lit
invariant-loop-lit l = l.whole.items ≡ l.fn.first ∷ take l.lit-index l.lits
