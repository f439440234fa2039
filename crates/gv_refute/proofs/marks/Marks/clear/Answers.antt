use Rattle.std.proofs.Common.{◌∙◌, ◌≤◌, false, length, length-set, ap, arith}
use Rattle.gv_refute.proofs.NoteLemmas.{unmarked, unmarked_past, cleared}
use Rattle.gv_refute.proofs.marks.Marks.clear.Goals as goal

pub loop-lit-preserved-then-lit-len : goal.loop-lit-preserved-then-lit-len
loop-lit-preserved-then-lit-len c =
    let i = c.loop-lit.invariant in
    let on = c.loop-lit.self-inside.on.items in
    record {
      noted = unmarked c.loop-lit.self-inside.on.items c.loop-lit.self-inside.noted.items c.pop.new.self.items c.lit.inside.0 (rw c.lit.view_is c.in-Some.ensures.items) i.noted;
      count = omega (arith, i.count, length-set c.loop-lit.self-inside.on.items c.lit.inside.0 false);
      room = omega (arith, i.room, c.pop.ensures.capacity, length-set c.loop-lit.self-inside.on.items c.lit.inside.0 false);
    }

pub loop-lit-preserved : goal.loop-lit-preserved
loop-lit-preserved c =
    let i = c.loop-lit.invariant in
    let le : length c.loop-lit.self-inside.on.items ≤ c.lit.inside.0 = omega (arith, c.len.ensures, c.loop-lit.self-inside.on.ok.0) in
    record {
      noted = unmarked_past c.loop-lit.self-inside.on.items c.loop-lit.self-inside.noted.items c.pop.new.self.items c.lit.inside.0 (rw c.lit.view_is c.in-Some.ensures.items) le i.noted;
      count = i.count;
      room = omega (arith, i.room, c.pop.ensures.capacity);
    }

pub invariant_of-self : goal.invariant_of-self
invariant_of-self c =
    let i = c.loop-lit.invariant in
    let e = c.in_default.ensures.cases in
    let none = cleared (length c.self.inside.on.items) c.loop-lit.self-inside.on.items c.loop-lit.self-inside.noted.items c.pop.new.self.items
    (omega (arith, e.0, c.loop-lit.self-inside.noted.ok.0)) (omega (arith, e.1, c.pop.new.self.ok.0)) i.count i.noted in
    (none.1, omega (arith, i.room, c.pop.ensures.capacity))

pub returns : goal.returns
returns c =
    let i = c.loop-lit.invariant in
    let e = c.in_default.ensures.cases in
    let none = cleared (length c.args.self.now) c.loop-lit.self-inside.on.items c.loop-lit.self-inside.noted.items c.pop.new.self.items
    (omega (arith, e.0, c.loop-lit.self-inside.noted.ok.0)) (omega (arith, e.1, c.pop.new.self.ok.0)) (i.count ∙ ap length c.self.view_is) i.noted in
    none.0
