use Rattle.std.proofs.Common.{◌≡◌, ◌==◌, false, ◌∙◌, arith}
use Rattle.gv_edits.proofs.Bytes.{some_taken}
use Rattle.gv_edits.proofs.pending.Pending.refill.Goals as goal

pub returns-then-self-clause-end : goal.returns-then-self-clause-end
returns-then-self-clause-end g c = λ empty.
    let other : (c.self.inside.from == c.self.inside.to) ≡ false = grind (arith, c.if-self.true) in
    absurd (some_taken c.self.inside.room.items c.self.inside.from c.self.inside.to c.self.invariant.0 c.self.invariant.1 other (c.self.view_is ∙ empty))
