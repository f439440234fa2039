use Rattle.std.proofs.Common.{◌≡◌, sym, ap, ◌∙◌}
use Rattle.std.proofs.lemmas.Result.{IfOk-weaker}
use Rattle.gv_base.specs.Outside.{found_at}
use Rattle.gv_views.specs.Areas.{area_of}
use Rattle.gv_views.specs.Told.{IsTold, told_files}
use Rattle.gv_views.specs.Views.{layered_files}
use Rattle.gv_views.proofs.LayeredViews.{eclass_found, eclass_large, other_found, other_large, profiles_found, profiles_large}
use Rattle.gv_views.proofs.reading.read_layered.Goals as goal

pub returns-in-InProfiles-clause-found : goal.returns-in-InProfiles-clause-found
returns-in-InProfiles-clause-found g c =
    IfOk-weaker c.read_in.result _ (λ found. IsTold (g.T.Tree.files c.args.tree.now) → found ≡ found_at (layered_files (told_files (g.T.Tree.files c.args.tree.now)) c.args.layers.now) c.args.path.now)
    (λ found h. profiles_found (g.T.Tree.files c.args.tree.now) c.args.layers.now c.args.path.now found (ap area_of (sym c.bytes.ensures) ∙ sym c.area_of.ensures ∙ c.in-InProfiles.is) h) c.read_in.ensures.found

pub returns-in-InProfiles-clause-large : goal.returns-in-InProfiles-clause-large
returns-in-InProfiles-clause-large g c = λ e. profiles_large (g.T.Tree.files c.args.tree.now) c.args.layers.now c.args.path.now (ap area_of (sym c.bytes.ensures) ∙ sym c.area_of.ensures ∙ c.in-InProfiles.is) (c.read_in.ensures.large e)

pub returns-in-InEclasses-clause-found : goal.returns-in-InEclasses-clause-found
returns-in-InEclasses-clause-found g c =
    IfOk-weaker c.read_first.result _ (λ found. IsTold (g.T.Tree.files c.args.tree.now) → found ≡ found_at (layered_files (told_files (g.T.Tree.files c.args.tree.now)) c.args.layers.now) c.args.path.now)
    (λ found h. eclass_found (g.T.Tree.files c.args.tree.now) c.args.layers.now c.args.path.now found (ap area_of (sym c.bytes.ensures) ∙ sym c.area_of.ensures ∙ c.in-InEclasses.is) h) c.read_first.ensures.found

pub returns-in-InEclasses-clause-large : goal.returns-in-InEclasses-clause-large
returns-in-InEclasses-clause-large g c = λ e. eclass_large (g.T.Tree.files c.args.tree.now) c.args.layers.now c.args.path.now (ap area_of (sym c.bytes.ensures) ∙ sym c.area_of.ensures ∙ c.in-InEclasses.is) (c.read_first.ensures.large e)

pub returns-in-Other-clause-found : goal.returns-in-Other-clause-found
returns-in-Other-clause-found g c =
    IfOk-weaker c.read_in-in-Other.result _ (λ found. IsTold (g.T.Tree.files c.args.tree.now) → found ≡ found_at (layered_files (told_files (g.T.Tree.files c.args.tree.now)) c.args.layers.now) c.args.path.now)
    (λ found h. other_found (g.T.Tree.files c.args.tree.now) c.args.layers.now c.args.path.now found (ap area_of (sym c.bytes.ensures) ∙ sym c.area_of.ensures ∙ c.in-Other.is) h) c.read_in-in-Other.ensures.found

pub returns-in-Other-clause-large : goal.returns-in-Other-clause-large
returns-in-Other-clause-large g c = λ e. other_large (g.T.Tree.files c.args.tree.now) c.args.layers.now c.args.path.now (ap area_of (sym c.bytes.ensures) ∙ sym c.area_of.ensures ∙ c.in-Other.is) (c.read_in-in-Other.ensures.large e)
