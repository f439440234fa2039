use Rattle.std.proofs.Common.{sym, ◌∙◌}
use Rattle.gv_views.proofs.LayeredViews.{own_found}
use Rattle.gv_views.proofs.reading.read_own.Goals as goal

pub returns-in-Ok-File-clause-found : goal.returns-in-Ok-File-clause-found
returns-in-Ok-File-clause-found g c =
    own_found (g.T.Tree.files c.args.tree.now) c.args.layers.now c.args.path.now c.in-Ok-File.text c.requires (λ t. sym c.in-Ok-File.field-0-is ∙ c.in-Ok-File.ensures.found t)
