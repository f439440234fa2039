use Rattle.std.proofs.Common.{◌≡◌, ◌*◌, false}
use Rattle.std.specs.Prelude.{replicate}
use Rattle.gv_probe.proofs.refute.over.Given as goal

abbrev pub invariant-loop-part : goal.invariant-loop-part
invariant-loop-part l = l.marks ≡ replicate (2 * l.clauses.variables) false
