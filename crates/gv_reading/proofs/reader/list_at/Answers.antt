use Rattle.gv_reading.specs.Causes.{view}
use Rattle.gv_reading.proofs.Readings.{listed}
use Rattle.gv_reading.proofs.reader.list_at.Goals as goal

pub returns : goal.returns
returns g c =
    let seen = c.args.reader.now in
    let said = c.list_names.ensures in
    listed g.T.Tree.failed_at (view g.T.Tree.files g.T.Tree.faults g.T.Tree.entered g.T.Tree.lent) c.args.tree.now c.list_names.new.tree seen c.args.path.now c.list_names.result c.requires said.names (said.passed seen) (said.cause seen) said.asked said.here said.files said.around said.later said.calm
