use Rattle.gv_logic.specs.Partial.{AllQuiet}
use Rattle.gv_trail.specs.Entries.{assignment}
use Rattle.gv_solver.specs.Search.{Ready, IsSearch}
use Rattle.gv_solver.proofs.search.descend.Given as goal

abbrev pub invariant-loop-input : goal.invariant-loop-input
invariant-loop-input l =
    record {
      ready : Ready l.clauses l.inputs l.trail;
      search : IsSearch l.clauses.clauses l.input l.trail;
      quiet : AllQuiet (assignment l.trail) l.clauses.clauses;
    }
