use Rattle.std.proofs.Common.{◌≡◌, ◌∷◌, take, map}
use Rattle.gv_logic.specs.Literals.{opposite}
use Rattle.gv_encode.proofs.encoding.add_whole_of_opposites.Given as goal

abbrev pub invariant-loop-lit : goal.invariant-loop-lit
invariant-loop-lit l = l.turned.items ≡ l.fn.first ∷ map opposite (take l.lit-index l.lits)
