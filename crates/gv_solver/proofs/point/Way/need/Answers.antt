use Rattle.std.proofs.Common.{◌≡◌, ◌∙◌, Some, false, refl, sym, ap, subst}
use Rattle.gv_logic.specs.Partial.{is_true}
use Rattle.gv_trail.specs.Entries.{assignment}
use Rattle.gv_solver.proofs.Counts.{counts_one}
use Rattle.gv_solver.proofs.Looks.{look_on}
use Rattle.gv_solver.proofs.Points.{needs_noted}
use Rattle.gv_solver.proofs.point.Way.need.Goals as goal

pub returns-in-Some-true-clause-needs : goal.returns-in-Some-true-clause-needs
returns-in-Some-true-clause-needs c = needs_noted c.args.trail.now c.args.lit c.args.self.now _ c.note.new.self _ c.requires c.mark.ensures refl refl c.note.ensures

pub returns-in-Some-true-clause-counts : goal.returns-in-Some-true-clause-counts
returns-in-Some-true-clause-counts c =
    counts_one c.args.trail.now c.args.lit c.args.self.now _ c.note.new.self c.requires (subst (λ m. is_true m c.args.lit ≡ false) c.deref.ensures.value (sym c.is_on.ensures ∙ c.if-is_on.false))
    (look_on (assignment c.args.trail.now) c.args.lit (sym c.of.ensures ∙ c.in-Some-true.is ∙ ap Some c.in-Some-true.field-0-test)) c.mark.ensures refl refl refl c.note.ensures
