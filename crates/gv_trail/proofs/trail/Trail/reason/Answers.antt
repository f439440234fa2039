use Rattle.std.proofs.Common.{◌≡◌, ◌∙◌, ◌*◌, true, false, length, ap, sym}
use Rattle.gv_logic.specs.Partial.{is_true}
use Rattle.gv_trail.specs.Entries.{State, reason_of}
use Rattle.gv_trail.specs.declared.cause.Cause.{Cause}
use Rattle.gv_trail.proofs.Entries.{reason_is, reason_not}
use Rattle.gv_trail.proofs.trail.Trail.reason.Goals as goal

pub returns-then-not-is_on : goal.returns-then-not-is_on
returns-then-not-is_on c =
    let off : is_true c.self.inside.on.items c.args.lit ≡ false = rw (← c.deref.ensures.value) (sym c.is_on.ensures ∙ c.if-not-is_on.true) in
    reason_not (2 * length c.self.inside.causes.items) c.self.inside.on.items c.self.inside.causes.items c.self.inside.lits.items c.args.lit c.self.invariant.marked c.self.invariant.fresh off
    ∙ ap (λ (s : State). reason_of c.args.lit s.entries) c.self.view_is

pub returns : goal.returns
returns c =
    let on : is_true c.self.inside.on.items c.args.lit ≡ true = rw (← c.deref.ensures.value) (sym c.is_on.ensures ∙ c.if-not-is_on.false) in
    ap (λ (k : Cause). k.reason) (rw c.deref-2.ensures.value at c.cause_of.ensures)
    ∙ reason_is (2 * length c.self.inside.causes.items) c.self.inside.on.items c.self.inside.causes.items c.self.inside.lits.items c.args.lit c.self.invariant.marked on
    ∙ ap (λ (s : State). reason_of c.args.lit s.entries) c.self.view_is
