use Rattle.std.proofs.Common.{◌≡◌, ◌++◌, drop}
use Rattle.gv_logic.specs.Logs.{offs}
use Rattle.gv_solver.proofs.least.off_places.Given as goal

abbrev pub invariant-loop-place : goal.invariant-loop-place
invariant-loop-place l = l.set.items ++ offs l.place (drop l.place l.bits) ≡ offs 0 l.bits
