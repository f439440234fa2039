use Rattle.std.proofs.Common.{false, ◌∙◌}
use Rattle.gv_facts.specs.declared.rules.Effect.TheVariants.{Force, Mask}
use Rattle.gv_usestate.proofs.NamedLemmas.{general_alone}
use Rattle.gv_usestate.proofs.RulesAtPlaces.{at_places}
use Rattle.gv_usestate.proofs.states.general_effects.Goals as goal

pub returns-clause-mask : goal.returns-clause-mask
returns-clause-mask c =
    let p = c.args.pkg.now in
    rw (c.effects_at.ensures.mask, c.items.ensures)
    (at_places Mask p.pkg p.profile p.level c.args.flag.now c.args.general.now c.places_of.result.now false c.places_of.ensures.items
    ∙ rw c.requires.general (general_alone Mask p.pkg p.profile p.level c.args.flag.now p.profile.rules false c.requires.other))

pub returns-clause-force : goal.returns-clause-force
returns-clause-force c =
    let p = c.args.pkg.now in
    rw (c.effects_at.ensures.force, c.items.ensures)
    (at_places Force p.pkg p.profile p.level c.args.flag.now c.args.general.now c.places_of.result.now false c.places_of.ensures.items
    ∙ rw c.requires.general (general_alone Force p.pkg p.profile p.level c.args.flag.now p.profile.rules false c.requires.other))
