use Rattle.std.proofs.Common.{◌≤◌, ◌<◌, length, drop, arith}
use Rattle.gv_edits.proofs.Bytes.{none_taken, at_end}
use Rattle.gv_edits.proofs.pending.Pending.fill.Goals as goal

pub returns-clause-end : goal.returns-clause-end
returns-clause-end g c =
    let few : c.in_ok-n.n ≤ c.self.inside.room.len = grind (arith, c.in_ok-n.ensures.bound, c.as_mut_slice.ensures.len, c.next.auto.room) in
    let more : 0 < length c.next.new.room = grind (arith, c.as_mut_slice.ensures.value, c.next.auto.room, c.self.invariant) in
    λ empty. let none = none_taken c.in_ok-n.n c.self.inside.room.len c.next.new.room (drop (length c.next.new.room) c.self.inside.room.items) c.in_ok-n.ensures.bound few empty in
    rw c.in_ok-n.ensures.left (at_end (g.I.Source.left c.args.input.now) c.next.new.room c.in_ok-n.n none more c.in_ok-n.ensures.taken)
