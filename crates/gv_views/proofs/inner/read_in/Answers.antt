use Rattle.std.proofs.Common.{◌≡◌}
use Rattle.gv_views.specs.Views.{inside}
use Rattle.gv_views.proofs.Tellings.{found_told}
use Rattle.gv_views.proofs.inner.read_in.Goals as goal

pub returns-in-Ok-clause-found : goal.returns-in-Ok-clause-found
returns-in-Ok-clause-found g c = found_told (g.T.Tree.files c.args.tree.now) (inside c.args.folder.now c.args.path.now) c.in-Ok.found (rw c.in_ok-inner.ensures at c.in-Ok.ensures.found)
