use Rattle.std.proofs.Common.{◌≡◌}
use Rattle.gv_trail.specs.Derived.{IsTrail}
use Rattle.gv_tests.proofs.trail.one_run.Given as goal

abbrev pub invariant-loop : goal.invariant-loop
invariant-loop l = record { six : l.clauses.variables ≡ 6; over : IsTrail l.clauses l.trail }
