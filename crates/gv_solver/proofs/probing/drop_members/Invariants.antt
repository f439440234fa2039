use Rattle.std.proofs.Common.{◌-◌, length, ◌<◌, ◌≤◌, ◌^◌, ℕ}
use Rattle.std.specs.List.{AllByRecursion, remove}
use Rattle.gv_logic.specs.Kept.{IsOpen, IsRising}
use Rattle.gv_solver.specs.Clash.{Clashes}
use Rattle.gv_logic.specs.Partial.{Has}
use Rattle.gv_trail.specs.Derived.{IsTrail}
use Rattle.gv_solver.proofs.probing.drop_members.Given as goal

abbrev pub invariant-loop-i : goal.invariant-loop-i
invariant-loop-i l =
    record {
      over : IsTrail l.clauses l.trail;
      few : l.trail.variables ≤ 2 ^ 30;
      clash : Clashes l.set.items l.clauses.clauses;
      tight : (j : ℕ) → j < l.i → IsOpen (remove l.set.items j) l.clauses.clauses;
      within : (m : ℕ) → Has m l.set.items → Has m l.initial.set.items;
      rising : (b t : ℕ) → IsRising b t l.initial.set.items → IsRising b t l.set.items;
      range : AllByRecursion (λ m. m < l.trail.variables) l.set.items;
      at : l.i ≤ length l.set.items;
    }

abbrev pub decreases-loop-i : goal.decreases-loop-i
decreases-loop-i l = length l.set.items - l.i
