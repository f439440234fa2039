use Rattle.gv_edits.specs.Script.{script_left}
use Rattle.gv_run.specs.SessionSteps.{ahead}
use Rattle.gv_run.proofs.Served.{undone_if}
use Rattle.gv_run.proofs.serving.step.Goals as goal

pub returns-clause-cause : goal.returns-clause-cause
returns-clause-cause g c =
    undone_if (g.T.Tree.files c.args.tree.now) c.args.session.now (script_left c.args.reader.now (g.I.Source.left c.args.input.now)) (ahead c.args.reader.now.taken (g.I.Source.left c.args.input.now))
    (ahead c.take_command.new.reader.taken (g.I.Source.left c.take_command.new.input)) c.args.reader.now.read (g.T.Tree.faults c.args.tree.now) (g.I.Source.faults c.args.input.now) (g.I.Source.faults c.take_command.new.input)
    (g.S.Sink.held c.args.out.now) (g.S.Sink.faults c.args.out.now) c.args.steps.now.lower _ c.in_ok-command.ensures.calm _ _ _ c.in_ok-command.command c.in_ok-command.ensures.command c.perform_command.result
    c.perform_command.ensures.cause
