use Rattle.std.proofs.Common.{◌≡◌, ◌∙◌, ◌*◌, Some, None, length, ap, sym}
use Rattle.gv_trail.specs.Entries.{State, assignment, level_of, value_of}
use Rattle.gv_trail.specs.declared.cause.Cause.{Cause}
use Rattle.gv_trail.proofs.Entries.{level_is, level_not}
use Rattle.gv_trail.proofs.trail.Trail.level_of.Goals as goal

pub returns-in-None : goal.returns-in-None
returns-in-None c =
    let v : value_of c.self.inside.on.items c.args.lit ≡ None = rw (c.self.invariant.marked, ap assignment c.self.view_is) (sym c.in-None.ensures) in
    level_not (2 * length c.self.inside.causes.items) c.self.inside.on.items c.self.inside.causes.items c.self.inside.lits.items c.args.lit c.self.invariant.marked c.self.invariant.fresh v
    ∙ ap (λ (s : State). level_of c.args.lit s.entries) c.self.view_is

pub returns-in-Some : goal.returns-in-Some
returns-in-Some c =
    let v : value_of c.self.inside.on.items c.args.lit ≡ Some c.in-Some.field-0 = rw (c.self.invariant.marked, ap assignment c.self.view_is) (sym c.in-Some.ensures) in
    ap (λ (k : Cause). Some k.level) (rw c.deref.ensures.value at c.cause_of.ensures)
    ∙ level_is (2 * length c.self.inside.causes.items) c.self.inside.on.items c.self.inside.causes.items c.self.inside.lits.items c.args.lit c.in-Some.field-0 c.self.invariant.marked v
    ∙ ap (λ (s : State). level_of c.args.lit s.entries) c.self.view_is
