use Rattle.std.proofs.Common.{◌≤◌, arith}
use Rattle.gv_run.proofs.Scanned.{left_from}
use Rattle.gv_run.proofs.scanning.scan.Goals as goal

pub returns-clause-performs : goal.returns-clause-performs
returns-clause-performs g c = λ input.
    let later : g.K.Store.faults c.args.store.now ≤ g.K.Store.faults c.leave.new.store = omega (arith, c.in_ok-given.ensures.calm, c.leave.ensures.store_later) in
    left_from input c.args.asked.now _ _ _ _ _ _ _ c.in_ok-given.given c.in_ok-given.ensures.given _ c.answer_root.ensures.files _ c.answer_root.ensures.later _ _ _ _ _ later c.leave.ensures.out_later
    c.in_ok-answers.answers c.in_ok-answers.ensures.answers _ _ c.given.ensures.files c.in_ok-given.ensures.calm c.leave.result c.leave.ensures.left c.leave.ensures.cause
