use Rattle.std.proofs.Common.{◌≡◌, None, drop}
use Rattle.gv_trail.specs.Look.{look_after}
use Rattle.gv_trail.proofs.look.look_at.Given as goal

abbrev pub invariant-loop-lit : goal.invariant-loop-lit
invariant-loop-lit l = look_after l.on l.left (drop l.lit-index l.lits) ≡ look_after l.on None l.lits
