use Rattle.std.proofs.Common.{◌≡◌}
use Rattle.gv_trail.specs.Entries.{assignment}
use Rattle.gv_solver.specs.Found.{bits_to}
use Rattle.gv_solver.proofs.least.bits_of.Given as goal

abbrev pub invariant-loop-i : goal.invariant-loop-i
invariant-loop-i l = l.bits ≡ bits_to (assignment l.trail) l.i
