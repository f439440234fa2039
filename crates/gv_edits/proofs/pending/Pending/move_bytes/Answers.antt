use Rattle.std.proofs.Common.{sym, ap, ◌∙◌}
use Rattle.gv_edits.specs.Pending.{whole}
use Rattle.gv_edits.proofs.Bytes.{moved, nothing_moved}
use Rattle.gv_edits.proofs.pending.Pending.move_bytes.Goals as goal

pub returns-clause-moved : goal.returns-clause-moved
returns-clause-moved g c =
    rw (c.in_ok-n.ensures.text, c.in_ok-n.ensures.left)
    (ap (whole c.args.text.now) (sym c.refill.ensures.same) ∙ moved c.args.text.now c.refill.new.self c.in_ok-n.n (g.I.Source.left c.refill.new.input))

pub returns-clause-end : goal.returns-clause-end
returns-clause-end g c =
    nothing_moved c.refill.new.self c.hand_over.new.self c.in_ok-n.n c.args.most (g.I.Source.left c.refill.new.input)
    c.in_ok-n.ensures.count c.requires c.in_ok-n.ensures.left c.in_ok-refill.ensures.end
