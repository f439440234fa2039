use Rattle.std.proofs.Common.{◌∙◌, ap}
use Rattle.gv_trail.specs.Entries.{lits_of}
use Rattle.gv_solver.specs.Replay.{replay_by}
use Rattle.gv_solver.specs.Resting.{reasons}
use Rattle.gv_solver.proofs.Starts.{clash_follows}
use Rattle.gv_solver.proofs.steps.step_of.Goals as goal

pub returns-clause-step_follows : goal.returns-clause-step_follows
returns-clause-step_follows c cs t r le d k =
    clash_follows cs t c.args.variables c.args.set.now c.in_ok-clause.clause c.in_ok-hints.hints c.args.trail.now c.args.last r le d k c.requires.variables c.in_ok-clause.ensures
    (c.in_ok-hints.ensures ∙ ap (λ on. replay_by (reasons c.args.trail.now) on (lits_of c.args.trail.now.entries) c.args.last) c.in_ok-on.ensures)
