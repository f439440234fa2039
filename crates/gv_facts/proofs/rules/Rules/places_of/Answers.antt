use Rattle.std.proofs.Common.{ap, map, ◌∙◌}
use Rattle.std.specs.Prelude.{slice_get}
use Rattle.gv_facts.specs.Places.{names_flag, places_of}
use Rattle.gv_facts.proofs.PlacesLemmas.{at_places}
use Rattle.gv_facts.proofs.rules.Rules.places_of.Goals as goal

pub returns-clause-items : goal.returns-clause-items
returns-clause-items c =
    ap (map (slice_get c.args.self.now)) (c.at.ensures ∙ c.self.invariant c.args.flag.now ∙ ap (places_of (names_flag c.args.flag.now)) c.self.view_is)
    ∙ at_places (names_flag c.args.flag.now) c.args.self.now
