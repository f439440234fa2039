use Rattle.gv_facts.specs.Places.{names_flag}
use Rattle.gv_usestate.proofs.RulesAtPlaces.{any_place}
use Rattle.gv_usestate.proofs.ruled.is_named.Goals as goal

pub returns : goal.returns
returns c = rw (c.is_empty.ensures, c.places_of.ensures.places) (any_place (names_flag c.args.flag.now) 0 c.args.rules.now)
