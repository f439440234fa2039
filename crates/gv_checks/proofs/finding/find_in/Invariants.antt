use Rattle.std.proofs.Common.{◌≤◌}
use Rattle.gv_checks.specs.Named.{IsNamed}
use Rattle.gv_checks.specs.Queries.{Query}
use Rattle.gv_checks.proofs.finding.find_in.Given as goal

abbrev pub invariant-loop-profile : goal.invariant-loop-profile
invariant-loop-profile l = (q : Query) (named : IsNamed l.options l.repo l.name q) → l.profile-index ≤ named.line
