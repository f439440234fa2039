use Rattle.std.proofs.Common.{◌≡◌, drop, ◌<◌, ◌*◌, ◌^◌, false, replicate}
use Rattle.std.specs.List.{AllByRecursion}
use Rattle.gv_solver.specs.Marks.{marked}
use Rattle.gv_solver.proofs.marks.marks_off.Given as goal

abbrev pub invariant-loop-member : goal.invariant-loop-member
invariant-loop-member l =
    record {
      built : marked l.on.items (drop l.member-index l.set) ≡ marked (replicate (2 * l.variables) false) l.set;
      range : AllByRecursion (λ i. i < 2 ^ 31) (drop l.member-index l.set);
    }
