use Rattle.std.proofs.Common.{ap, subst}
use Rattle.std.specs.Prelude.{reverse}
use Rattle.gv_usedefaults.specs.Going.{IsGoing, ahead_of}
use Rattle.gv_usedefaults.specs.Stacks.{parents_in}
use Rattle.gv_usedefaults.proofs.GoingLemmas.{left_dir}
use Rattle.gv_usedefaults.proofs.stack_walk.go_on.Goals as goal

pub returns-in_ok-leave-in-Done : goal.returns-in_ok-leave-in-Done
returns-in_ok-leave-in-Done c = record {
  on = λ whole going.
      left_dir (parents_in c.args.files.now) whole c.args.going c.in_ok-leave-in-Done.field-0 c.in-Done.dir (ahead_of c.args.going) (rw c.in-Done.is at going)
      c.in_ok-leave-in-Done.ensures.stack c.in_ok-leave-in-Done.ensures.visits c.in_ok-leave-in-Done.ensures.way (ap reverse c.in_ok-leave-in-Done.ensures.ahead);
}
