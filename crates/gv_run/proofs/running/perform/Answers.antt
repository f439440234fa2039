use Rattle.std.proofs.Common.{◌∙◌}
use Rattle.gv_run.proofs.Performed.{begun}
use Rattle.gv_run.proofs.running.perform.Goals as goal

pub returns-in-Ok-clause-runs : goal.returns-in-Ok-clause-runs
returns-in-Ok-clause-runs g c =
    begun c.args.words.now c.in-Some.command (rw c.in-Some.is at c.in_ok-command.ensures) (g.T.Tree.entered c.args.tree.now) (g.T.Tree.entered c.carry_out-ending.new.tree)
    (c.carry_out-ending.ensures.root ∙ c.in-Ok.ensures.entered) _ _ _ c.carry_out-ending.result (rw (c.in-Ok.ensures.files, c.in-Ok.ensures.faults) at c.carry_out-ending.ensures.performs)
