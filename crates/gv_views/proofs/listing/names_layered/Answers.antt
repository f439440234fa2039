use Rattle.std.proofs.Common.{◌≡◌, sym, ap, ◌∙◌}
use Rattle.std.proofs.lemmas.Result.{IfOk-weaker}
use Rattle.gv_base.specs.Listing.{IsListing}
use Rattle.gv_views.specs.Areas.{area_of}
use Rattle.gv_views.specs.Told.{IsTold, told_files}
use Rattle.gv_views.specs.Views.{layered_files}
use Rattle.gv_views.proofs.LayeredViews.{eclass_named, eclasses_named, list_named, other_named, profiles_named, top_named}
use Rattle.gv_views.proofs.listing.names_layered.Goals as goal

pub returns-in-Categories-clause-parts : goal.returns-in-Categories-clause-parts
returns-in-Categories-clause-parts g c =
    IfOk-weaker c.names_in.result _ (λ names. IsTold (g.T.Tree.files c.args.tree.now) → IsListing (layered_files (told_files (g.T.Tree.files c.args.tree.now)) c.args.layers.now) c.args.path.now names)
    (λ names h. list_named (g.T.Tree.files c.args.tree.now) c.args.layers.now c.args.path.now c.in_order_law.ensures names (ap area_of (sym c.bytes.ensures) ∙ sym c.area_of.ensures ∙ c.in-Categories.is) h) c.names_in.ensures.parts

pub returns-in-InProfiles-clause-parts : goal.returns-in-InProfiles-clause-parts
returns-in-InProfiles-clause-parts g c =
    IfOk-weaker c.names_in-in-InProfiles.result _ (λ names. IsTold (g.T.Tree.files c.args.tree.now) → IsListing (layered_files (told_files (g.T.Tree.files c.args.tree.now)) c.args.layers.now) c.args.path.now names)
    (λ names h. profiles_named (g.T.Tree.files c.args.tree.now) c.args.layers.now c.args.path.now c.in_order_law.ensures names (ap area_of (sym c.bytes.ensures) ∙ sym c.area_of.ensures ∙ c.in-InProfiles.is) h) c.names_in-in-InProfiles.ensures.parts

pub returns-in-Profiles-clause-parts : goal.returns-in-Profiles-clause-parts
returns-in-Profiles-clause-parts g c =
    IfOk-weaker c.names_in_profiles.result _ (λ names. IsTold (g.T.Tree.files c.args.tree.now) → IsListing (layered_files (told_files (g.T.Tree.files c.args.tree.now)) c.args.layers.now) c.args.path.now names)
    (λ names h. top_named (g.T.Tree.files c.args.tree.now) c.args.layers.now c.args.path.now c.in_order_law.ensures names (ap area_of (sym c.bytes.ensures) ∙ sym c.area_of.ensures ∙ c.in-Profiles.is) h) c.names_in_profiles.ensures.parts

pub returns-in-Eclasses-clause-parts : goal.returns-in-Eclasses-clause-parts
returns-in-Eclasses-clause-parts g c =
    IfOk-weaker c.names_in_eclasses.result _ (λ names. IsTold (g.T.Tree.files c.args.tree.now) → IsListing (layered_files (told_files (g.T.Tree.files c.args.tree.now)) c.args.layers.now) c.args.path.now names)
    (λ names h. eclasses_named (g.T.Tree.files c.args.tree.now) c.args.layers.now c.args.path.now c.in_order_law.ensures names (ap area_of (sym c.bytes.ensures) ∙ sym c.area_of.ensures ∙ c.in-Eclasses.is) h) c.names_in_eclasses.ensures.parts

pub returns-in-InEclasses-clause-parts : goal.returns-in-InEclasses-clause-parts
returns-in-InEclasses-clause-parts g c =
    IfOk-weaker c.names_in_eclasses-in-InEclasses.result _ (λ names. IsTold (g.T.Tree.files c.args.tree.now) → IsListing (layered_files (told_files (g.T.Tree.files c.args.tree.now)) c.args.layers.now) c.args.path.now names)
    (λ names h. eclass_named (g.T.Tree.files c.args.tree.now) c.args.layers.now c.args.path.now c.in_order_law.ensures names (ap area_of (sym c.bytes.ensures) ∙ sym c.area_of.ensures ∙ c.in-InEclasses.is) h) c.names_in_eclasses-in-InEclasses.ensures.parts

pub returns-in-Other-clause-parts : goal.returns-in-Other-clause-parts
returns-in-Other-clause-parts g c =
    IfOk-weaker c.names_in-in-Other.result _ (λ names. IsTold (g.T.Tree.files c.args.tree.now) → IsListing (layered_files (told_files (g.T.Tree.files c.args.tree.now)) c.args.layers.now) c.args.path.now names)
    (λ names h. other_named (g.T.Tree.files c.args.tree.now) c.args.layers.now c.args.path.now c.in_order_law.ensures names (ap area_of (sym c.bytes.ensures) ∙ sym c.area_of.ensures ∙ c.in-Other.is) h) c.names_in-in-Other.ensures.parts
