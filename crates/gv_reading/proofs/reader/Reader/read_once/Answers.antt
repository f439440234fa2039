use Rattle.std.proofs.Common.{sym, ◌∙◌}
use Rattle.gv_reading.specs.Causes.{view}
use Rattle.gv_reading.proofs.Onces.{counted_once, known_once}
use Rattle.gv_reading.proofs.reader.Reader.read_once.Goals as goal

pub returns-in-Some : goal.returns-in-Some
returns-in-Some g c = known_once _ c.args.self.now c.args.path.now _ c.requires (sym c.in-Some.is ∙ c.in_ok-found.ensures)

pub returns-in-None : goal.returns-in-None
returns-in-None g c =
    let said = c.count.ensures in
    counted_once g.T.Tree.failed_at (view g.T.Tree.files g.T.Tree.faults g.T.Tree.entered g.T.Tree.lent) c.args.tree.now c.count.new.tree c.args.self.now c.count.new.self c.args.path.now c.count.result c.requires
    (sym c.in-None.is ∙ c.in_ok-found.ensures) said.found said.known said.passed said.cause said.asked said.here said.files said.around said.later said.calm
