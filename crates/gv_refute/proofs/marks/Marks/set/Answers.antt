use Rattle.std.proofs.Common.{◌<◌, true, length, length-set, arith}
use Rattle.gv_refute.proofs.NoteLemmas.{noted_set, noted_room}
use Rattle.gv_refute.proofs.marks.Marks.set.Goals as goal

pub unreachable-requires : goal.unreachable-requires
unreachable-requires c =
    let free = rw (← c.self.view_is, ← c.lit.view_is) at c.requires in
    let lt : c.lit.inside.0 < length c.self.inside.on.items = omega (arith, c.len.ensures, c.self.inside.on.ok.0) in
    omega (arith, noted_room _ _ _ lt free c.self.invariant.0, c.in-Err.ensures.full, c.self.inside.noted.ok.0, c.self.invariant.1)

pub invariant_of-self : goal.invariant_of-self
invariant_of-self c =
    let free = rw (← c.self.view_is, ← c.lit.view_is) at c.requires in
    let lt : c.lit.inside.0 < length c.self.inside.on.items = omega (arith, c.len.ensures, c.self.inside.on.ok.0) in
    let items = rw (← c.lit.view_is) at c.in-Ok.ensures.items in (
      noted_set c.self.inside.on.items c.self.inside.noted.items _ c.lit.inside.0 lt free items c.self.invariant.0,
      omega (arith, length-set c.self.inside.on.items c.lit.inside.0 true, c.self.invariant.1, c.in-Ok.ensures.capacity),
    )
