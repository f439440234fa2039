use Rattle.std.proofs.Common.{ap, map, ◌∙◌}
use Rattle.std.specs.Prelude.{slice_get}
use Rattle.gv_facts.specs.Places.{is_mask_of, places_of}
use Rattle.gv_facts.proofs.PlacesLemmas.{at_places}
use Rattle.gv_facts.proofs.masks.Masks.places_of.Goals as goal

pub returns-clause-items : goal.returns-clause-items
returns-clause-items c =
    ap (map (slice_get c.args.self.now)) (c.at.ensures ∙ c.self.invariant c.args.category.now c.args.name.now ∙ ap (places_of (is_mask_of c.args.category.now c.args.name.now)) c.self.view_is)
    ∙ at_places (is_mask_of c.args.category.now c.args.name.now) c.args.self.now
