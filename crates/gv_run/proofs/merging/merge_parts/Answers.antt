use Rattle.std.proofs.Common.{arith, subst}
use Rattle.gv_ending.specs.Fetching.{AreJoined}
use Rattle.gv_run.proofs.Parted.{merge_left_from}
use Rattle.gv_run.proofs.merging.merge_parts.Goals as goal

pub returns-clause-performs : goal.returns-clause-performs
returns-clause-performs g c = λ input.
    merge_left_from input c.args.merging.now (g.T.Tree.files c.args.tree.now) (g.T.Tree.faults c.args.tree.now) (g.K.Store.files c.args.store.now) (g.K.Store.faults c.args.store.now) (g.S.Sink.held c.args.out.now)
    (g.S.Sink.faults c.args.out.now) c.args.steps.now c.in_ok-given.given (subst (λ paths. AreJoined (g.K.Store.files c.args.store.now) paths c.in_ok-given.given) c.items.ensures c.in_ok-given.ensures.known)
    (g.T.Tree.files c.merge_root.new.tree) c.in_ok-answers.ensures.files (g.T.Tree.faults c.merge_root.new.tree) c.in_ok-answers.ensures.later c.merge_root.new.steps c.in_ok-answers.ensures.unsolved
    (g.K.Store.files c.leave.new.store) (g.K.Store.faults c.leave.new.store) (g.S.Sink.held c.leave.new.out) (g.S.Sink.faults c.leave.new.out) (omega (arith, c.in_ok-given.ensures.calm, c.leave.ensures.store_later))
    c.leave.ensures.out_later c.in_ok-answers.answers c.in_ok-answers.ensures.answers (g.K.Store.files c.fetch_joined.new.store) (g.K.Store.faults c.fetch_joined.new.store) c.in_ok-given.ensures.files
    c.in_ok-given.ensures.calm c.leave.result c.leave.ensures.left c.leave.ensures.cause
