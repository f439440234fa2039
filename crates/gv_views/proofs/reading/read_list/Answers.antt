use Rattle.gv_views.proofs.LayeredViews.{list_found}
use Rattle.gv_views.proofs.reading.read_list.Goals as goal

pub returns-in-Ok-Some-clause-found : goal.returns-in-Ok-Some-clause-found
returns-in-Ok-Some-clause-found g c =
    list_found (g.T.Tree.files c.args.tree.now) c.args.layers.now c.args.path.now c.in-Ok-Some.text c.in-Ok-Some.field-0 c.requires c.in-Ok-Some.field-0-is c.in-Ok-Some.ensures.joined
