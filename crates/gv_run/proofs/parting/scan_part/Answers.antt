use Rattle.gv_run.proofs.Parted.{part_left}
use Rattle.gv_run.proofs.parting.scan_part.Goals as goal

pub returns-clause-performs : goal.returns-clause-performs
returns-clause-performs g c = λ input out out_faults.
    part_left input out out_faults c.args.asked.now c.args.share.now (g.T.Tree.files c.args.tree.now) (g.T.Tree.faults c.args.tree.now) (g.K.Store.files c.args.store.now) (g.K.Store.faults c.args.store.now) c.args.steps.now
    c.in_ok-given.given c.in_ok-given.ensures.given (g.T.Tree.files c.part_file.new.tree) c.in_ok-file.ensures.files (g.T.Tree.faults c.part_file.new.tree) c.in_ok-file.ensures.later c.part_file.new.steps
    (g.K.Store.files c.keep.new.store) (g.K.Store.faults c.keep.new.store) c.in_ok-file.file c.in_ok-file.ensures.answers (g.K.Store.files c.given.new.store) (g.K.Store.faults c.given.new.store) c.in_ok-given.ensures.files
    c.in_ok-given.ensures.calm c.in_ok-keep.ensures.kept c.in_ok-keep.ensures.calm
