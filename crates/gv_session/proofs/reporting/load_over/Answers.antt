use Rattle.gv_session.proofs.EditLemmas.{loaded_both}
use Rattle.gv_session.proofs.reporting.load_over.Goals as goal

pub returns-clause-found : goal.returns-clause-found
returns-clause-found g c = loaded_both c.args.edits.now (g.T.Tree.files c.args.tree.now) c.load_counted.result c.load_counted.ensures.found c.load_counted.ensures.folders
