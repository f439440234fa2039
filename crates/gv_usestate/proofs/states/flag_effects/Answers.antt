use Rattle.std.proofs.Common.{false}
use Rattle.gv_facts.specs.declared.rules.Effect.TheVariants.{Force, Mask}
use Rattle.gv_usestate.proofs.RulesAtPlaces.{at_places}
use Rattle.gv_usestate.proofs.states.flag_effects.Goals as goal

pub returns-clause-mask : goal.returns-clause-mask
returns-clause-mask c =
    rw (c.effects_at.ensures.mask, c.items-rules.ensures, c.profile.ensures)
    (at_places Mask c.args.pkg.now.pkg c.args.pkg.now.profile c.args.pkg.now.level c.args.flag.now c.args.pkg.now.profile.rules c.args.places.now false c.requires)

pub returns-clause-force : goal.returns-clause-force
returns-clause-force c =
    rw (c.effects_at.ensures.force, c.items-rules.ensures, c.profile.ensures)
    (at_places Force c.args.pkg.now.pkg c.args.pkg.now.profile c.args.pkg.now.level c.args.flag.now c.args.pkg.now.profile.rules c.args.places.now false c.requires)
