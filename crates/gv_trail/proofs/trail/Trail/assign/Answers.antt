use Rattle.std.proofs.Common.{◌≡◌, ◌∙◌, ◌*◌, ◌<◌, ◌/◌, false, length, ap, sym, refl, arith}
use Rattle.std.proofs.Math.ListN.{length-set}
use Rattle.std.proofs.lemmas.List.{length-map}
use Rattle.gv_logic.specs.Literals.{opposite}
use Rattle.gv_logic.specs.Partial.{is_true}
use Rattle.gv_trail.specs.Cause.{entry_of, entries_of}
use Rattle.gv_trail.specs.Entries.{State, assignment, level_after}
use Rattle.gv_trail.specs.declared.cause.Cause.{Cause}
use Rattle.gv_trail.proofs.Marks.{long, fresh_room}
use Rattle.gv_trail.proofs.Push.{ArePushed, push_keeps, pushed}
use Rattle.gv_trail.proofs.trail.Trail.assign.Goals as goal

pub index_mut-requires : goal.index_mut-requires
index_mut-requires c =
    let lit : c.lit.inside.0 ≡ c.args.lit = c.lit.view_is in
    let range : c.args.lit < 2 * length c.self.inside.causes.items = rw (← c.self.view_is) at c.requires.range in
    let len = ap length c.self.invariant.marked ∙ long (2 * length c.self.inside.causes.items) (entries_of c.self.inside.causes.items c.self.inside.lits.items) in
    omega (arith, lit, range, len, c.self.inside.on.ok.0)

pub unreachable-requires : goal.unreachable-requires
unreachable-requires c =
    let range : c.args.lit < 2 * length c.self.inside.causes.items = rw (← c.self.view_is) at c.requires.range in
    let free : is_true (assignment c.args.self.now) c.args.lit ≡ false = c.requires.free in
    let few = fresh_room (2 * length c.self.inside.causes.items) (entries_of c.self.inside.causes.items c.self.inside.lits.items) c.args.lit c.self.invariant.fresh range (rw (← c.self.view_is) at free) in
    omega (arith, c.in-Err.ensures.full, c.self.inside.lits.ok.0, c.self.invariant.room, few, length-map c.self.inside.lits.items (entry_of c.self.inside.causes.items))

pub invariant_of-self : goal.invariant_of-self
invariant_of-self c =
    let lit : c.lit.inside.0 ≡ c.args.lit = c.lit.view_is in
    let range : c.args.lit < 2 * length c.self.inside.causes.items = rw (← c.self.view_is) at c.requires.range in
    let free : is_true c.self.inside.on.items c.args.lit ≡ false = rw (c.self.invariant.marked, ap assignment c.self.view_is) c.requires.free in
    let other : is_true c.self.inside.on.items (opposite c.args.lit) ≡ false = rw (c.self.invariant.marked, ap assignment c.self.view_is) c.requires.other in
    let before : ArePushed c.self.inside.on.items c.self.inside.causes.items c.self.inside.lits.items c.self.inside.level = record { marked = c.self.invariant.marked; fresh = c.self.invariant.fresh; levels = c.self.invariant.levels } in
    let cause : Cause = record { reason = c.args.reason; level = c.args.level } in
    let h = push_keeps c.self.inside.on.items c.self.inside.causes.items c.self.inside.lits.items c.args.lit cause c.self.inside.level before range free other
    (c.requires.level ∙ ap (λ (s : State). level_after c.args.reason s.level) (sym c.self.view_is)) in
    let m = length-set c.self.inside.causes.items (c.lit.inside.0 / 2) cause in
    record {
      marked = rw (lit, c.in-Ok.ensures.items) h.marked;
      fresh = rw (lit, c.in-Ok.ensures.items) h.fresh;
      levels = rw (lit, c.in-Ok.ensures.items) h.levels;
      few = omega (arith, m, c.self.invariant.few);
      room = omega (arith, m, c.self.invariant.room, c.in-Ok.ensures.capacity);
    }

pub returns : goal.returns
returns c =
    let lit : c.lit.inside.0 ≡ c.args.lit = c.lit.view_is in
    let range : c.args.lit < 2 * length c.self.inside.causes.items = rw (← c.self.view_is) at c.requires.range in
    let free : is_true c.self.inside.on.items c.args.lit ≡ false = rw (c.self.invariant.marked, ap assignment c.self.view_is) c.requires.free in
    let other : is_true c.self.inside.on.items (opposite c.args.lit) ≡ false = rw (c.self.invariant.marked, ap assignment c.self.view_is) c.requires.other in
    let cause : Cause = record { reason = c.args.reason; level = c.args.level } in
    let es = pushed c.self.inside.on.items c.self.inside.causes.items c.self.inside.lits.items c.args.lit cause c.self.invariant.marked c.self.invariant.fresh range free other in
    let n = length-set c.self.inside.causes.items (c.args.lit / 2) cause in
    rw (lit, c.in-Ok.ensures.items, n, es, ← c.self.view_is) refl
