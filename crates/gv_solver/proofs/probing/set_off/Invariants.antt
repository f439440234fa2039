use Rattle.std.proofs.Common.{◌≤◌, drop, ◌<◌, ◌^◌, ℕ, List, Bool}
use Rattle.std.specs.List.{AllByRecursion}
use Rattle.gv_logic.specs.Kept.{AllOff}
use Rattle.gv_logic.specs.Partial.{Has}
use Rattle.gv_trail.specs.Entries.{assignment}
use Rattle.gv_solver.specs.Marks.{Below}
use Rattle.gv_solver.specs.Puts.{Grows}
use Rattle.gv_solver.proofs.probing.set_off.Given as goal

abbrev pub invariant-loop-member : goal.invariant-loop-member
invariant-loop-member l =
    record {
      grows : Grows l.set l.initial.trail l.trail;
      off : (on : List Bool) → Below (assignment l.trail) on → AllOff on (drop l.member-index l.set) → AllOff on l.set;
      has : (i : ℕ) → Has i (drop l.member-index l.set) → Has i l.set;
      range : AllByRecursion (λ i. i < l.trail.variables) (drop l.member-index l.set);
      few : l.trail.variables ≤ 2 ^ 30;
    }
