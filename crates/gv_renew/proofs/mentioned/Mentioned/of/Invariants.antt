use Rattle.std.proofs.Common.{◌≡◌, ◌++◌, drop}
use Rattle.gv_renew.proofs.mentioned.Mentioned.of.Given as goal

abbrev pub invariant-loop-body : goal.invariant-loop-body
invariant-loop-body l = l.packages.items ++ drop l.body-index l.body-items ≡ l.repo.bodies
