use Rattle.std.proofs.Common.{◌≡◌, ◌++◌, drop, ◌<◌, ◌^◌}
use Rattle.std.specs.List.{AllByRecursion}
use Rattle.gv_logic.specs.Logs.{set_clause}
use Rattle.gv_solver.proofs.steps.clause_of.Given as goal

abbrev pub invariant-loop-member : goal.invariant-loop-member
invariant-loop-member l =
    record {
      built : l.clause ++ set_clause (drop l.member-index l.set) ≡ set_clause l.set;
      range : AllByRecursion (λ i. i < 2 ^ 31) (drop l.member-index l.set);
    }
