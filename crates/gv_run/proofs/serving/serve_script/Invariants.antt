use Rattle.std.proofs.Common.{◌≡◌, ◌≤◌, ◌-◌}
use Rattle.gv_edits.specs.Script.{script_left}
use Rattle.gv_session.specs.Session.{Agrees}
use Rattle.gv_run.specs.SessionSteps.{Goes, ahead, at}
use Rattle.gv_run.proofs.serving.serve_script.Given as goal

-- commands were performed, none of which is `end`, and nothing failed
abbrev pub invariant-commands : goal.invariant-commands
invariant-commands g l = record {
  goes : Goes (g.T.Tree.files l.fn.tree)
      (at l.fn.session (script_left l.fn.reader (g.I.Source.left l.fn.input)) (ahead l.fn.reader.taken (g.I.Source.left l.fn.input)) l.fn.reader.read (g.S.Sink.held l.fn.out) l.fn.steps.lower)
      (at l.session (script_left l.reader (g.I.Source.left l.input)) (ahead l.reader.taken (g.I.Source.left l.input)) l.reader.read (g.S.Sink.held l.out) l.steps.lower);
  within : l.reader.read ≤ 1000000;
  agrees : Agrees (g.T.Tree.files l.tree) l.session;
  files : g.T.Tree.files l.tree ≡ g.T.Tree.files l.fn.tree;
  root : g.T.Tree.entered l.tree ≡ g.T.Tree.entered l.fn.tree;
  tree : g.T.Tree.faults l.tree ≡ g.T.Tree.faults l.fn.tree;
  input : g.I.Source.faults l.input ≡ g.I.Source.faults l.fn.input;
  out : g.S.Sink.faults l.out ≡ g.S.Sink.faults l.fn.out;
}

abbrev pub decreases-commands : goal.decreases-commands
decreases-commands g l = 1000000 - l.reader.read
