use Rattle.std.proofs.Common.{drop}
use Rattle.gv_solver.specs.LevelCounts.{Counts}
use Rattle.gv_solver.specs.Point.{NeedsRest}
use Rattle.gv_trail.specs.Entries.{assignment}
use Rattle.gv_solver.proofs.point.Way.need_all.Given as goal

abbrev pub invariant-loop-lit : goal.invariant-loop-lit
invariant-loop-lit l =
    record {
      needs : NeedsRest (assignment l.trail) l.lits (drop l.lit-index l.lits) l.initial.self l.self;
      counts : Counts l.trail l.lits l.initial.self l.self;
    }
